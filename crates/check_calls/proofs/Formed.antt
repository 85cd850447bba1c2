-- "Well formed", in its parts, and put together from them. Assumes nothing.
use Prim.Native.Nat.{ℕ, ◌≤◌, ◌<◌}
use mathlib.Core.Bool.{Bool, true, false, cond, ◌&&◌}
use mathlib.Core.Path.{◌≡◌, refl}
use native.Mathlib.Omega.{arith}
use borrow.Author.Tests.{ltb-true, leb-true, leb-false, eqb-true, eqb-false, lt-ltb, le-leb}
use lib.Dec.{ltb, leb, eqb}
use Rattle.base_laws.proofs.Splits.{and_left, and_right}
use Rattle.domain_terms.specs.declared.scope.Counts.{Counts}
use Rattle.plan_waiting.specs.Waiting.{used, slots_fit, Sound}
use Rattle.plan_waiting.specs.declared.Queue.{Queue}
use Rattle.plan_waiting.proofs.Fitting.{fit_sound}
use Rattle.check_meaning.specs.Listed.{listed_in_plan, listed_verdict, listed_time}
use Rattle.plan_feeding.specs.declared.PlanProgress.{PlanProgress}
use Rattle.check_calls.specs.Calls.{counters_fit, answers_fit, sizes_fit, formed}

pub record Counters (p : PlanProgress) : Type 0 where
  pub first : 0 < p.number
  pub lines : p.number ≤ 1000001
  pub empty : 1000000 < p.number → p.used ≡ 0
  pub short : p.used ≤ 256
  pub timely : p.start < 1000000000000

pub record Answers (p : PlanProgress) : Type 0 where
  pub refusal : p.refused ≡ true → listed_in_plan p.refusal p.at p.column ≡ true
  pub verdict : listed_verdict p.past.outcome ≡ true
  pub time : p.past.time < 2000000000000

pub record Sizes (counts : Counts) (acting fact_count number_count : ℕ) : Type 0 where
  pub types : counts.types ≤ 17
  pub objects : counts.objects ≤ 64
  pub actions : acting ≤ 32
  pub few_facts : fact_count ≤ 16384
  pub few_numbers : number_count ≤ 1024

pub record Formed (p : PlanProgress) (counts : Counts) (acting fact_count number_count : ℕ) (q : Queue) : Type 0 where
  pub counters : Counters p
  pub answers : Answers p
  pub sizes : Sizes counts acting fact_count number_count
  pub few : q.count ≤ 64
  pub slots : slots_fit acting (used q) ≡ true

pub formed_sound : {p : PlanProgress} {counts : Counts} {acting fact_count number_count : ℕ} {q : Queue} → Formed p counts acting fact_count number_count q
    → Sound acting q
formed_sound {acting = acting} {q = q} h = (h.few, fit_sound acting (used q) h.slots)

-- ---- the parts

abbrev last_line : ℕ → ℕ
last_line n = cond (eqb n 0) 1000001 1000000

-- past the millionth line no byte is kept
last_parts : (n u : ℕ) → leb n (last_line u) ≡ true → (n ≤ 1000001) × (1000000 < n → u ≡ 0)
last_parts n u h = go (eqb u 0) refl
  where
    go : (b : Bool) → eqb u 0 ≡ b → (n ≤ 1000001) × (1000000 < n → u ≡ 0)
    go true e = (leb-true n 1000001 (rw e at h), λ _. eqb-true u 0 e)
    go false e = let l = leb-true n 1000000 (rw e at h) in (omega (arith, l), λ i. absurd (let y : ⊥ = omega (arith, l, i) in y))

last_of : (n u : ℕ) → n ≤ 1000001 → (1000000 < n → u ≡ 0) → leb n (last_line u) ≡ true
last_of n u h f = go (eqb u 0) refl
  where
    go : (b : Bool) → eqb u 0 ≡ b → leb n (last_line u) ≡ true
    go true e = rw (e, le-leb n 1000001 h)
    go false e = rw e (by (leb n 1000000) refl)
      where
        by : (b : Bool) → leb n 1000000 ≡ b → leb n 1000000 ≡ true
        by true i = i
        by false i = absurd (eqb-false u 0 e (f (leb-false n 1000000 i)))

pub counters_parts : (p : PlanProgress) → counters_fit p ≡ true → Counters p
unfolding counters_fit
counters_parts p h =
    let a = ltb 0 p.number in
    let b = leb p.number (last_line p.used) in
    let c = leb p.used 256 in
    let d = ltb p.start 1000000000000 in
    let abc = and_left (a && b && c) d h in
    let ab = and_left (a && b) c abc in
    let l = last_parts p.number p.used (and_right a b ab) in
    record {
      first = ltb-true 0 p.number (and_left a b ab);
      lines = l.0;
      empty = l.1;
      short = leb-true p.used 256 (and_right (a && b) c abc);
      timely = ltb-true p.start 1000000000000 (and_right (a && b && c) d h);
    }

abbrev standing_fits : PlanProgress → Bool
standing_fits p = cond p.refused (listed_in_plan p.refusal p.at p.column) true

pub answers_parts : (p : PlanProgress) → answers_fit p ≡ true → Answers p
unfolding answers_fit listed_time
answers_parts p h =
    let a = standing_fits p in
    let b = listed_verdict p.past.outcome in
    let c = listed_time p.past.time in
    let ab = and_left (a && b) c h in
    let s = and_left a b ab in
    record {
      refusal = λ e. rw e at s;
      verdict = and_right a b ab;
      time = ltb-true p.past.time 2000000000000 (and_right (a && b) c h);
    }

pub sizes_parts : (counts : Counts) (acting fact_count number_count : ℕ) → sizes_fit counts acting fact_count number_count ≡ true
    → Sizes counts acting fact_count number_count
unfolding sizes_fit
sizes_parts counts acting fact_count number_count h =
    let a = leb counts.types 17 in
    let b = leb counts.objects 64 in
    let c = leb acting 32 in
    let d = leb fact_count 16384 in
    let e = leb number_count 1024 in
    let abcd = and_left (a && b && c && d) e h in
    let abc = and_left (a && b && c) d abcd in
    let ab = and_left (a && b) c abc in
    record {
      types = leb-true counts.types 17 (and_left a b ab);
      objects = leb-true counts.objects 64 (and_right a b ab);
      actions = leb-true acting 32 (and_right (a && b) c abc);
      few_facts = leb-true fact_count 16384 (and_right (a && b && c) d abcd);
      few_numbers = leb-true number_count 1024 (and_right (a && b && c && d) e h);
    }

-- ---- from the parts

pub counters_of : (p : PlanProgress) → Counters p → counters_fit p ≡ true
unfolding counters_fit
counters_of p h =
    rw (
      lt-ltb 0 p.number h.first,
      last_of p.number p.used h.lines h.empty,
      le-leb p.used 256 h.short,
      lt-ltb p.start 1000000000000 h.timely,
    )

pub answers_of : (p : PlanProgress) → Answers p → answers_fit p ≡ true
unfolding answers_fit listed_time
answers_of p h = rw (standing p.refused refl, h.verdict, lt-ltb p.past.time 2000000000000 h.time)
  where
    standing : (b : Bool) → p.refused ≡ b → standing_fits p ≡ true
    standing true e = rw e (h.refusal e)
    standing false e = rw e

pub sizes_of_lem : (counts : Counts) (acting fact_count number_count : ℕ) → Sizes counts acting fact_count number_count
    → sizes_fit counts acting fact_count number_count ≡ true
unfolding sizes_fit
sizes_of_lem counts acting fact_count number_count h =
    rw (
      le-leb counts.types 17 h.types,
      le-leb counts.objects 64 h.objects,
      le-leb acting 32 h.actions,
      le-leb fact_count 16384 h.few_facts,
      le-leb number_count 1024 h.few_numbers,
    )

-- ---- the whole

module _ (p : PlanProgress) (counts : Counts) (acting fact_count number_count : ℕ) (q : Queue) where
  pub formed_parts : formed p counts acting fact_count number_count q ≡ true → Formed p counts acting fact_count number_count q
  unfolding formed
  formed_parts h =
      let a = counters_fit p in
      let b = answers_fit p in
      let c = sizes_fit counts acting fact_count number_count in
      let d = leb q.count 64 in
      let e = slots_fit acting (used q) in
      let abcd = and_left (a && b && c && d) e h in
      let abc = and_left (a && b && c) d abcd in
      let ab = and_left (a && b) c abc in
      record {
        counters = counters_parts p (and_left a b ab);
        answers = answers_parts p (and_right a b ab);
        sizes = sizes_parts counts acting fact_count number_count (and_right (a && b) c abc);
        few = leb-true q.count 64 (and_right (a && b && c) d abcd);
        slots = and_right (a && b && c && d) e h;
      }

  pub formed_of : Formed p counts acting fact_count number_count q → formed p counts acting fact_count number_count q ≡ true
  unfolding formed
  formed_of h =
      rw (
        counters_of p h.counters,
        answers_of p h.answers,
        sizes_of_lem counts acting fact_count number_count h.sizes,
        le-leb q.count 64 h.few,
        h.slots,
      )
