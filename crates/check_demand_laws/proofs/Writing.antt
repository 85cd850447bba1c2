-- What a call writes to a lent output: as many places as it says, and what lies after them stays. Assumes nothing.
use Prim.Native.Nat.{ℕ, ◌+◌, ◌≤◌}
use mathlib.Core.Bool.{Bool, true, false, cond}
use mathlib.Core.List.{List, map}
use mathlib.Core.Path.{◌≡◌, refl, sym, ap, subst, ◌∙◌}
use native.Mathlib.Nat.{zero-add}
use native.Mathlib.Omega.{arith}
use borrow.Author.Tests.{ltb-false}
use lib.Dec.{ltb}
use lib.ListN.{length, take, drop, length-map, length-take}
use lib.Seq.{sets, sets-eq, length-sets, drop-append_seam}
use Rattle.check_meaning.specs.Answer.{bit, shown}
use Rattle.check_calls.specs.Calls as C
use Rattle.check_calls.specs.Calls.{well_formed, feed_of, finish_of, result_of, facts_of, numbers_of}
use Rattle.check_calls.specs.declared.Check.{Check}
use Rattle.check_calls.specs.declared.Reply.{Reply}
use Rattle.check_calls.specs.declared.Answer.{Answer}
use Rattle.check_calls.specs.declared.Answer.TheVariants as A
use Rattle.check_demand_laws.specs.Calling.{Call, feed, finish, result, facts, numbers, lent, make}
use Rattle.check_demand_laws.specs.Ruling.{Written}
use Rattle.check_demand_laws.specs.Ours.{ours}
use Rattle.plan_meaning.proofs.Listed.{listed_small}
use Rattle.check_calls.specs.Numbers.{number_of}
use Rattle.check_demand_laws.proofs.Sessions.{Misused}
use Rattle.check_demand_laws.proofs.Kept.{feed_unchanged, finish_unchanged, result_asked, facts_asked, numbers_asked}
use Rattle.check_demand_laws.proofs.Listed.{Taken, feed_listed, finish_listed, line_short}

-- a refusal is not done
pub refuses : {B : Type 0} {a : Answer} (n : ℕ) → ¬ (number_of a ≡ 0) → a ≡ A.Done n → B
refuses n h e = absurd (h (ap number_of e))

-- so many places of a list are written
record Wrote {X : Type 0} (n : ℕ) (out after : List X) : Type 0 where
  room : n ≤ length out
  size : length after ≡ length out
  rest : drop n after ≡ drop n out

module _ {X : Type 0} (c : Check) (out : List X) where
  -- an answer `Done n` wrote n places
  abbrev Says : Reply × List X → Type 0
  Says r = (n : ℕ) → r.0.answer ≡ A.Done n → Wrote n out r.1

  wrote : (w : List X) → length w ≤ length out → Wrote (length w) out (sets out 0 w)
  wrote w h =
      record {
        room = h;
        size = length-sets out 0 w;
        rest = ap (λ l. drop (length w) l) (sets-eq w out 0 (omega arith)) ∙ drop-append_seam w (drop (0 + length w) out)
            ∙ ap (λ (n : ℕ). drop n out) (zero-add (length w));
      }

  -- what is written is no longer than what 20 asks for
  writing_says : (least : ℕ) (w : List X) → length w ≤ least → Says (C.writing c out least w)
  writing_says least w h = go (ltb (length out) least) refl
    where
      go : (b : Bool) → ltb (length out) least ≡ b → Says (cond b (C.fed c A.Short, out) (C.fed c (A.Done (length w)), sets out 0 w))
      go true e n d = refuses n (λ z. let y : ⊥ = omega arith in y) d
      go false e n d =
          let k : length w ≡ n = cc in
          subst (λ (m : ℕ). Wrote m out (sets out 0 w)) k (wrote w (let l : least ≤ length out = ltb-false (length out) least e in omega arith))

  done_says : (next : Reply × List X) → (well_formed c ≡ true → Says next) → Says (C.when_done c out next)
  done_says next h = go (well_formed c) refl c.finished
    where
      go : (b : Bool) → well_formed c ≡ b → (f : Bool) → Says (cond b (cond f next (C.fed c A.Early, out)) (C.fed c A.Unformed, out))
      go false e f n d = refuses n (λ z. let y : ⊥ = omega arith in y) d
      go true e false n d = refuses n (λ z. let y : ⊥ = omega arith in y) d
      go true e true n d = h e n d

  stated_says : (next : Reply × List X) → Says next → Says (C.unless_refused c out next)
  stated_says next h = go c.progress.refused
    where
      go : (b : Bool) → Says (cond b (C.fed c A.Stateless, out) next)
      go true n d = refuses n (λ z. let y : ⊥ = omega arith in y) d
      go false n d = h n d

  state_says : (least : ℕ) (w : List X) → length w ≤ least → Says (C.when_done c out (C.unless_refused c out (C.writing c out least w)))
  state_says least w h = done_says (C.unless_refused c out (C.writing c out least w)) (λ f. stated_says (C.writing c out least w) (writing_says least w h))

-- feed and finish write nothing
taken_none : (a : Answer) (n : ℕ) → Taken a → a ≡ A.Done n → n ≡ 0
taken_none (A.Done m) n t e = let k : m ≡ n = cc in sym k ∙ t
taken_none (A.Refused k l c) n t e = absurd (let z : ◌≡◌ {A = ℕ} 0 1 = cc in let y : ⊥ = omega arith in y)
taken_none A.Unformed n t e = absurd (let z : ◌≡◌ {A = ℕ} 0 1 = cc in let y : ⊥ = omega arith in y)
taken_none A.Short n t e = absurd t
taken_none A.Late n t e = absurd (let z : ◌≡◌ {A = ℕ} 0 1 = cc in let y : ⊥ = omega arith in y)
taken_none A.Early n t e = absurd t
taken_none A.Stateless n t e = absurd t

pub output_written : (c : Check) (x : Call) (n : ℕ) → (make ours c x).answer ≡ A.Done n → Written n (lent x) (make ours c x).output
unfolding result_of facts_of numbers_of
output_written c (feed p) n e = (taken_none (feed_of c p).answer n (feed_listed c p) e, refl)
output_written c finish n e = (taken_none (finish_of c).answer n (finish_listed c) e, refl)
output_written c (result out) n e =
    let w = done_says c out (C.writing c out 64 (C.line_in c.progress)) (λ f. writing_says c out 64 (C.line_in c.progress) (line_short c f)) n e in
    (w.room, w.size, w.rest)
output_written c (facts out) n e =
    let w = state_says c out k (map bit (take k c.facts)) (omega (arith, length-map (take k c.facts) bit, length-take k c.facts)) n e in
    (w.room, w.size, w.rest)
  where
    k : ℕ
    k = c.model.sizes.facts
output_written c (numbers out) n e =
    let w = state_says c out k (map shown (take k c.numbers)) (omega (arith, length-map (take k c.numbers) shown, length-take k c.numbers)) n e in
    (w.room, w.size, w.rest)
  where
    k : ℕ
    k = c.model.sizes.numbers

-- ---- 19 to 23 return the check unchanged

misused : (a : Answer) → Taken a → 19 ≤ number_of a → Misused a
misused (A.Done n) t h = absurd (let y : ⊥ = omega arith in y)
misused (A.Refused k l c) t h = absurd (let y : ⊥ = omega (arith, (listed_small k l c t).number) in y)
misused A.Unformed t h = tt
misused A.Short t h = tt
misused A.Late t h = tt
misused A.Early t h = tt
misused A.Stateless t h = tt

pub check_kept : (c : Check) (x : Call) → 19 ≤ number_of (make ours c x).answer → (make ours c x).check ≡ c
check_kept c (feed p) h = feed_unchanged c p (misused (feed_of c p).answer (feed_listed c p) h)
check_kept c finish h = finish_unchanged c (misused (finish_of c).answer (finish_listed c) h)
check_kept c (result out) h = (result_asked c out).0
check_kept c (facts out) h = (facts_asked c out).0
check_kept c (numbers out) h = (numbers_asked c out).0
