-- Demand 1: every answer of a call is one of the table, whatever the check; the line of a well-formed check has at most 64 bytes, its LF with them.
-- Assumes nothing.
use Prim.Native.Nat.{ℕ, ◌≤◌}
use mathlib.Core.Bool.{true}
use mathlib.Core.List.{List, [], ◌∷◌, ◌++◌, map}
use mathlib.Core.Path.{◌≡◌, refl}
use native.Mathlib.Omega.{arith}
use borrow.Author.Tests.{leb-true}
use lib.Dec.{ltb}
use lib.IntN.{ℤ}
use lib.ListN.{length, take}
use Rattle.base_laws.proofs.Splits.{and_left, and_right, choose}
use Rattle.base_laws.proofs.Lists.{taken_length}
use Rattle.text_words.specs.Bytes.{bytes}
use Rattle.happening_meaning.specs.declared.Outcome.{Outcome}
use Rattle.happening_meaning.specs.declared.Outcome.TheVariants.{Done, Duration, Condition, Undefined, Range, Itself, Conflict, Invariant, Goal}
use Rattle.happening_meaning.specs.State.{State}
use Rattle.plan_meaning.specs.Plan.{Result}
use Rattle.plan_meaning.specs.Feed.{close}
use Rattle.plan_meaning.specs.Lines.{Refused, reader, limits}
use Rattle.plan_meaning.proofs.Listed.{Small, line_parts, listed_small}
use Rattle.check_wording.specs.Wording.{decimal, time_of, word_of, line_of, second_of, behind_space, verdict_line, refusal_line}
use Rattle.check_wording.proofs.Lengths.{verdict_short, plan_refusal_short}
use Rattle.plan_feeding.specs.declared.PlanProgress.{PlanProgress}
use Rattle.check_meaning.specs.Answer.{bit, shown}
use Rattle.check_meaning.specs.Listed.{listed_line, listed_in_plan, listed_verdict}
use Rattle.check_calls.specs.Calls as C
use Rattle.check_calls.specs.Calls.{well_formed, rules_on, known_on, held_by, stored, standing, line_in, feed_of, finish_of, result_of, facts_of, numbers_of}
use Rattle.check_calls.specs.declared.Check.{Check}
use Rattle.check_calls.specs.declared.Reply.{Reply}
use Rattle.check_calls.specs.declared.Answer.{Answer}
use Rattle.check_calls.specs.declared.Answer.TheVariants as A
use Rattle.check_calls.proofs.Formed.{Answers, formed_parts}
use Rattle.check_calls.proofs.Results.{few_facts, few_numbers}
use Rattle.check_demand_laws.proofs.Session.{fed_by, fed_kept, closed_kept}
use Rattle.check_demand_laws.proofs.Asking.{ended_formed}
use Rattle.check_demand_laws.proofs.Kept.{stored_kept}

formed_answers : (c : Check) → well_formed c ≡ true → Answers c.progress
formed_answers c f = (formed_parts c.progress c.model.counts c.model.acting c.model.sizes.facts c.model.sizes.numbers c.queue f).answers

-- ---- feed and finish: done, a plan refusal of the table, 19 or 21

abbrev pub Taken : Answer → Type 0
Taken (A.Done n) = n ≡ 0
Taken (A.Refused k l c) = listed_in_plan k l c ≡ true
Taken A.Unformed = Unit {0}
Taken A.Short = ⊥
Taken A.Late = Unit {0}
Taken A.Early = ⊥
Taken A.Stateless = ⊥

abbrev Fine : Reply → Type 0
Fine r = Taken r.answer

stands : (p : PlanProgress) → Answers p → Taken (standing p)
stands p h = choose Taken p.refused (λ e. h.refusal e) (λ e. refl)

pub feed_listed : (c : Check) (p : List ℕ) → Taken (feed_of c p).answer
unfolding feed_of
feed_listed c p =
    choose Fine (well_formed c)
    (λ f. choose Fine c.finished (λ _. tt)
    (λ e. choose Fine c.progress.refused (λ _. stands c.progress (formed_answers c f))
    (λ g. stands (stored c (fed_by c p)).progress (formed_answers (stored c (fed_by c p))
    (stored_kept c f (fed_by c p) (fed_kept c p (record { formed = f; unfinished = e; unrefused = g })))))))
    (λ _. tt)

pub finish_listed : (c : Check) → Taken (finish_of c).answer
unfolding finish_of
finish_listed c =
    choose Fine (well_formed c)
    (λ f. choose Fine c.finished (λ _. tt)
    (λ e. choose Fine c.progress.refused (λ _. stands c.progress (formed_answers c f))
    (λ g. stands (C.ended c over).progress (formed_answers (C.ended c over)
    (ended_formed c f over (closed_kept c [] (record { formed = f; unfinished = e; unrefused = g })))))))
    (λ _. tt)
  where
    over : Result State Outcome Refused
    over = close (rules_on c) limits (reader (known_on c)) (held_by c)

-- ---- the line

listed_lines : (w : Outcome) → listed_verdict w ≡ true → (line_of w ≤ 1000000) × (second_of w ≤ 1000000)
unfolding line_of second_of listed_verdict
listed_lines Done h = (omega arith, omega arith)
listed_lines (Duration l) h = ((line_parts l h).1, omega arith)
listed_lines (Condition l) h = ((line_parts l h).1, omega arith)
listed_lines (Undefined l) h = (leb-true l 1000000 h, omega arith)
listed_lines (Range l) h = (leb-true l 1000000 h, omega arith)
listed_lines (Itself l) h = ((line_parts l h).1, omega arith)
listed_lines (Conflict l m) h = ((line_parts l (and_left (listed_line l) (listed_line m) h)).1, (line_parts m (and_right (listed_line l) (listed_line m) h)).1)
listed_lines (Invariant l) h = ((line_parts l h).1, omega arith)
listed_lines Goal h = (omega arith, omega arith)

-- "20 is for under 64 bytes for a line", and 64 are enough
pub line_short : (c : Check) → well_formed c ≡ true → length (line_in c.progress) ≤ 64
line_short c f = choose (λ w. length w ≤ 64) c.progress.refused (λ e. refusal (listed_small k l n (a.refusal e))) (λ _. verdict)
  where
    a : Answers c.progress
    a = formed_answers c f

    k : ℕ
    k = c.progress.refusal

    l : ℕ
    l = c.progress.at

    n : ℕ
    n = c.progress.column

    refusal : Small k l n → length (refusal_line (bytes "plan") k l n) ≤ 64
    refusal s =
        let i = s.number in
        let j = s.line in
        let m = s.column in
        plan_refusal_short k l n (omega (arith, i)) (omega (arith, j)) (omega (arith, m))

    verdict : length (verdict_line c.progress.past.outcome c.progress.past.time) ≤ 64
    verdict =
        let w = listed_lines c.progress.past.outcome a.verdict in
        verdict_short c.progress.past.outcome c.progress.past.time a.time w.0 w.1

-- "single spaces, LF"
abbrev pub Ends : List ℕ → Type 0
Ends line = (w : List ℕ) × (line ≡ w ++ 10 ∷ [])

refusal_ends : (k l c : ℕ) → Ends (refusal_line (bytes "plan") k l c)
unfolding refusal_line
refusal_ends k l c = (bytes "refused " ++ (bytes "plan" ++ (behind_space (decimal k) ++ (behind_space (decimal l) ++ behind_space (decimal c)))), refl)

verdict_ends : (o : Outcome) (t : ℕ) → Ends (verdict_line o t)
unfolding verdict_line
verdict_ends o t = (word_of o ++ (behind_space (time_of t) ++ (behind_space (decimal (line_of o)) ++ behind_space (decimal (second_of o)))), refl)

pub line_ends_lem : (p : PlanProgress) → Ends (line_in p)
line_ends_lem p = choose Ends p.refused (λ _. refusal_ends p.refusal p.at p.column) (λ _. verdict_ends p.past.outcome p.past.time)

-- ---- result, facts and numbers: done with so many places written, 19, 20 or 22, and 23 for the latter two

abbrev pub Wrote : ℕ → Answer → Type 0
Wrote size (A.Done n) = n ≡ size
Wrote size (A.Refused k l c) = ⊥
Wrote size A.Unformed = Unit {0}
Wrote size A.Short = Unit {0}
Wrote size A.Late = ⊥
Wrote size A.Early = Unit {0}
Wrote size A.Stateless = ⊥

abbrev pub Showed : ℕ → Answer → Type 0
Showed size (A.Done n) = n ≡ size
Showed size (A.Refused k l c) = ⊥
Showed size A.Unformed = Unit {0}
Showed size A.Short = Unit {0}
Showed size A.Late = ⊥
Showed size A.Early = Unit {0}
Showed size A.Stateless = Unit {0}

abbrev Written : Check → Reply × List ℕ → Type 0
Written c r = Wrote (length (line_in c.progress)) r.0.answer

pub result_listed : (c : Check) (out : List ℕ) → Wrote (length (line_in c.progress)) (result_of c out).0.answer
unfolding result_of
result_listed c out =
    choose (Written c) (well_formed c)
    (λ f. choose (Written c) c.finished (λ e. choose (Written c) (ltb (length out) 64) (λ _. tt) (λ _. refl)) (λ _. tt))
    (λ _. tt)

module _ {X : Type 0} (c : Check) (out : List X) (size : ℕ) (w : List X) (h : well_formed c ≡ true → length w ≡ size) where
  abbrev Told : Reply × List X → Type 0
  Told r = Showed size r.0.answer

  shown_listed : Told (C.when_done c out (C.unless_refused c out (C.writing c out size w)))
  shown_listed =
      choose Told (well_formed c)
      (λ f. choose Told c.finished
      (λ e. choose Told c.progress.refused (λ _. tt) (λ g. choose Told (ltb (length out) size) (λ _. tt) (λ _. h f)))
      (λ _. tt))
      (λ _. tt)

-- the arrays of a check are as long as their types say
pub facts_listed : (c : Check) (out : List ℕ) → length c.facts ≡ 16384 → Showed c.model.sizes.facts (facts_of c out).0.answer
unfolding facts_of
facts_listed c out long =
    shown_listed c out c.model.sizes.facts (map bit (take c.model.sizes.facts c.facts))
    (λ f. taken_length bit c.model.sizes.facts c.facts (few_facts c f long))

pub numbers_listed : (c : Check) (out : List ℤ) → length c.numbers ≡ 1024 → Showed c.model.sizes.numbers (numbers_of c out).0.answer
unfolding numbers_of
numbers_listed c out long =
    shown_listed c out c.model.sizes.numbers (map shown (take c.model.sizes.numbers c.numbers))
    (λ f. taken_length shown c.model.sizes.numbers c.numbers (few_numbers c f long))
