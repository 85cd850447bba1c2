-- What the machine keeps, stored in a check, is there again; a well-formed check keeps what can be kept, and stays well formed. Assumes nothing.
use Prim.Native.Nat.{ℕ, suc, ◌+◌, ◌≤◌, ◌<◌}
use mathlib.Core.Bool.{Bool, true, false, false≢true}
use mathlib.Core.List.{List, [], ◌∷◌, map, append-nil}
use mathlib.Core.Path.{◌≡◌, refl, sym, ap, ◌∙◌}
use native.Mathlib.Omega.{arith}
use lib.ListN.{length, take, length-map, length-take}
use Rattle.domain_meaning.specs.Indexes.{padded}
use Rattle.domain_rows.proofs.Rows.{take_padded}
use Rattle.domain_meaning.specs.Tables.{Table}
use Rattle.domain_prepared_meaning.specs.Decode.{actions_at}
use Rattle.domain_load.specs.Decode.{decode}
use Rattle.happening_meaning.specs.State.{State}
use Rattle.happening_meaning.specs.Happening.{is_done}
use Rattle.happening_meaning.specs.declared.Outcome as Why
use Rattle.plan_meaning.specs.Plan.{Point, Run, going, failed}
use Rattle.plan_meaning.specs.Machine.{waits}
use Rattle.plan_meaning.specs.Feed.{Feed, reading}
use Rattle.plan_meaning.specs.Promised.{Act}
use Rattle.plan_meaning.specs.Stored.{point_in, slot_of}
use Rattle.plan_meaning.specs.Lines.{Refused}
use Rattle.plan_meaning.specs.declared.Slot.{Slot}
use Rattle.plan_meaning.proofs.Lists.{All}
use Rattle.plan_meaning.proofs.Stored.{slot_back}
use Rattle.plan_waiting.specs.Waiting.{used, waiting, queue_of, slots_fit}
use Rattle.plan_waiting.proofs.Fitting.{fit_none, fit_first, fit_rest, fit_more}
use Rattle.plan_waiting.proofs.Places.{queue_waits, queue_count}
use Rattle.plan_running.specs.Running.{run_in}
use Rattle.plan_running.specs.declared.Past.{Past}
use Rattle.plan_lines.proofs.Names.{signed_length}
use Rattle.plan_feeding.specs.Feeding.{check_in}
use Rattle.plan_feeding.specs.declared.PlanProgress.{PlanProgress}
use Rattle.check_meaning.specs.Answer.{last_state}
use Rattle.check_meaning.specs.Listed.{listed_in_plan, listed_verdict}
use Rattle.check_calls.specs.Calls.{formed, well_formed, state_of, known_on, held_by, no_past, past_of, stored, ended_from}
use Rattle.check_calls.specs.declared.Check.{Check}
use Rattle.check_calls.proofs.Formed.{Counters, Answers, formed_parts, formed_of}
use Rattle.check_demand_laws.proofs.Naming.{done_listed}
use Rattle.check_demand_laws.proofs.Keeping.{SoundPoint, Told, Kept, Line, KeptFeed}

-- ---- what is stored is there again

run_back : (r : Run State Why.Outcome) → Told r → run_in (past_of r) (last_state r) ≡ r
run_back (going s t) h = refl
run_back (failed s t w) h = rw h.0.fails

module _ (n : ℕ) where
  points_back : (q : List (Point Act)) → All (SoundPoint n) q → map point_in (map slot_of q) ≡ q
  points_back [] h = refl
  points_back (p ∷ q) h = λ i. h.0.0 i ∷ points_back q h.1 i

  slots_fit_lem : (q : List (Point Act)) → All (SoundPoint n) q → slots_fit n (map slot_of q) ≡ true
  slots_fit_lem [] h = fit_none n
  slots_fit_lem (p ∷ q) h = fit_more n (slot_of p) (map slot_of q) h.0.1 (slots_fit_lem q h.1)

-- the places of a list's queue
pub queue_fits : (n : ℕ) (l : List Slot) → length l ≤ 64 → slots_fit n l ≡ true → ((queue_of l).count ≤ 64) × (slots_fit n (used (queue_of l)) ≡ true)
queue_fits n l h f = rw (queue_waits l h, queue_count l) (h, f)

-- what came of a run
pub told_answers : (r : Run State Why.Outcome) → Told r → (listed_verdict (past_of r).outcome ≡ true) × ((past_of r).time < 2000000000000)
told_answers (going s t) h = (done_listed, h)
told_answers (failed s t w) h = (h.0.listed, h.1)

line_back : (m : ℕ) (w : List ℕ) → length w ≤ m → take (length w) (padded m w) ≡ w
line_back m w h = ap (λ l. take (length w) l) (sym (append-nil (padded m w))) ∙ take_padded m w [] h

module _ (c : Check) (r : Run State Why.Outcome) (s : ℕ) (q : List (Point Act)) (k : ℕ) (part : List ℕ) where
  abbrev m : Feed State Act Why.Outcome Refused
  m = reading (waits r s q) k part

  pub held_back : (n : ℕ) → Kept n r s q → Line k part → held_by (stored c m) ≡ m
  unfolding stored check_in
  held_back n h l =
      λ i. reading (waits (run_back r h.told i) s (queue i)) k (line_back 257 part (omega (arith, l.short)) i)
    where
      queue : waiting (queue_of (map slot_of q)) ≡ q
      queue =
          ap (λ x. map point_in x) (queue_waits (map slot_of q) (omega (arith, length-map q slot_of, h.few)))
          ∙ points_back n q h.sound

  pub stored_formed : well_formed c ≡ true → Kept c.model.acting r s q → Line k part → well_formed (stored c m) ≡ true
  unfolding stored
  stored_formed f h l =
      let g = formed_parts c.progress c.model.counts c.model.acting c.model.sizes.facts c.model.sizes.numbers c.queue f in
      formed_of (stored c m).progress c.model.counts c.model.acting c.model.sizes.facts c.model.sizes.numbers (queue_of (map slot_of q))
      (record {
        counters = record { first = l.first; lines = l.last; empty = l.empty; short = l.short; timely = h.start };
        answers = record { refusal = λ e. absurd (false≢true e); verdict = (told_answers r h.told).0; time = (told_answers r h.told).1 };
        sizes = g.sizes;
        few = places.0;
        slots = places.1;
      })
    where
      places : ((queue_of (map slot_of q)).count ≤ 64) × (slots_fit c.model.acting (used (queue_of (map slot_of q))) ≡ true)
      places = queue_fits c.model.acting (map slot_of q) (omega (arith, length-map q slot_of, h.few)) (slots_fit_lem c.model.acting q h.sound)

-- ---- a well-formed check keeps what can be kept

past_told : (p : Past) (s : State) → listed_verdict p.outcome ≡ true → p.time < 2000000000000 → Told (run_in p s)
past_told p s l h = go (is_done p.outcome) refl
  where
    go : (b : Bool) → is_done p.outcome ≡ b → Told (run_in p s)
    go true e = rw e h
    go false e = rw e (record { fails = e; listed = l }, h)

points_sound : (n : ℕ) (l : List Slot) → slots_fit n l ≡ true → All (SoundPoint n) (map point_in l)
points_sound n [] h = tt
points_sound n (x ∷ l) h = ((ap point_in (slot_back x), rw (slot_back x) (fit_first n x l h)), points_sound n l (fit_rest n x l h))

pub held_kept : (c : Check) → well_formed c ≡ true → c.progress.refused ≡ false → KeptFeed c.model.acting (held_by c)
unfolding check_in
held_kept c f e =
    let g = formed_parts c.progress c.model.counts c.model.acting c.model.sizes.facts c.model.sizes.numbers c.queue f in
    rw e (
      record {
        told = past_told c.progress.past (state_of c) g.answers.verdict g.answers.time;
        start = g.counters.timely;
        few = omega (arith, length-map (used c.queue) point_in, length-take c.queue.count c.queue.slots, g.few);
        sound = points_sound c.model.acting (used c.queue) g.slots;
      },
      record {
        short = omega (arith, length-take c.progress.used c.line, g.counters.short);
        first = g.counters.first;
        last = g.counters.lines;
        empty = λ i. let u = g.counters.empty i in omega (arith, length-take c.progress.used c.line, u);
      },
    )

-- ---- as many actions as the model counts

actions_length : (rows : List ℕ) (j : ℕ) (es : Table) → length (actions_at rows j es) ≡ length es
unfolding actions_at
actions_length rows j [] = refl
actions_length rows j (e ∷ es) = ap suc (actions_length rows (j + 1) es)

pub acting_known : (c : Check) → length (known_on c).actions ≡ c.model.acting
unfolding known_on decode
acting_known c = actions_length c.model.rows 0 _ ∙ signed_length c.model.actions c.model.acting

-- ---- before and after a plan no point waits, and the counters stand at the first line

pub none_fits : (n : ℕ) → ((queue_of []).count ≤ 64) × (slots_fit n (used (queue_of [])) ≡ true)
none_fits n = queue_fits n [] (omega arith) (fit_none n)

pub fresh_counters : (p : PlanProgress) → p.number ≡ 1 → p.used ≡ 0 → p.start ≡ 0 → Counters p
fresh_counters p n u s =
    record { first = omega (arith, n); lines = omega (arith, n); empty = λ _. u; short = omega (arith, u); timely = omega (arith, s) }

module _ (c : Check) (f : well_formed c ≡ true) where
  pub fresh_formed : (p : PlanProgress) → p.number ≡ 1 → p.used ≡ 0 → p.start ≡ 0 → Answers p
      → formed p c.model.counts c.model.acting c.model.sizes.facts c.model.sizes.numbers (queue_of []) ≡ true
  fresh_formed p n u s a =
      let g = formed_parts c.progress c.model.counts c.model.acting c.model.sizes.facts c.model.sizes.numbers c.queue f in
      formed_of p c.model.counts c.model.acting c.model.sizes.facts c.model.sizes.numbers (queue_of [])
      (record {
        counters = fresh_counters p n u s;
        answers = a;
        sizes = g.sizes;
        few = (none_fits c.model.acting).0;
        slots = (none_fits c.model.acting).1;
      })

-- what is answered of a refused plan, and of one that came to an end
pub refused_answers : (p : PlanProgress) → listed_in_plan p.refusal p.at p.column ≡ true → p.past ≡ no_past → Answers p
refused_answers p h e =
    record { refusal = λ _. h; verdict = rw e done_listed; time = let t : p.past.time ≡ 0 = ap (λ (x : Past). x.time) e in omega (arith, t) }

pub ended_answers : (r : Run State Why.Outcome) → Told r → Answers (ended_from (past_of r))
ended_answers r h = record { refusal = λ e. absurd (false≢true e); verdict = (told_answers r h).0; time = (told_answers r h).1 }
