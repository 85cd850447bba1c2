-- Demand 1: every call keeps a check well formed, and refusals 19 to 23 return it unchanged and write to no output. Assumes nothing.
use Prim.Native.Nat.{ℕ}
use mathlib.Core.Bool.{Bool, true, false, cond, true≢false}
use mathlib.Core.List.{List, [], map}
use mathlib.Core.Path.{◌≡◌, refl, sym, ◌∙◌}
use lib.IntN.{ℤ}
use lib.Dec.{ltb}
use lib.ListN.{length, take}
use Rattle.base_laws.proofs.Splits.{choose, either}
use Rattle.domain_meaning.specs.Read.{Read, got, refused}
use Rattle.domain_meaning.specs.Domain.{Domain, read_domain}
use Rattle.domain_meaning.specs.Problem.{Problem, read_problem}
use Rattle.happening_meaning.specs.State.{State}
use Rattle.happening_meaning.specs.declared.Outcome as Why
use Rattle.plan_meaning.specs.Plan.{Result}
use Rattle.plan_meaning.specs.Machine.{waits, halted}
use Rattle.plan_meaning.specs.Feed.{Feed, reading, close}
use Rattle.plan_meaning.specs.Promised.{Act}
use Rattle.plan_meaning.specs.Lines.{Refused, reader, limits}
use Rattle.domain_load.specs.Load.{fixed_of}
use Rattle.domain_load.specs.declared.LoadAnswer.{LoadAnswer}
use Rattle.domain_load.specs.declared.LoadAnswer.TheVariants as Is
use Rattle.check_meaning.specs.Answer.{bit, shown}
use Rattle.check_calls.specs.Calls as C
use Rattle.check_calls.specs.Calls.{well_formed, rules_on, known_on, held_by, stored, check_for, feed_of, finish_of, result_of, facts_of, numbers_of, open_of}
use Rattle.check_calls.specs.declared.Check.{Check}
use Rattle.check_calls.specs.declared.Reply.{Reply}
use Rattle.check_calls.specs.declared.Answer.TheVariants as A
use Rattle.check_demand_laws.proofs.Sessions.{Misused}
use Rattle.check_demand_laws.proofs.Keeping.{KeptFeed}
use Rattle.check_demand_laws.proofs.Storing.{stored_formed}
use Rattle.check_demand_laws.proofs.Session.{fed_by, fed_kept, closed_kept, refused_formed}
use Rattle.check_demand_laws.proofs.Asking.{ended_formed}
use Rattle.check_demand_laws.proofs.Loaded.{loaded_open}
use Rattle.check_demand_laws.proofs.Whole.{opened, domain_opened, problem_opened, fixed_unformed}

-- ---- well-formedness is kept

module _ (c : Check) (f : well_formed c ≡ true) where
  pub stored_kept : (m : Feed State Act Why.Outcome Refused) → KeptFeed c.model.acting m → well_formed (stored c m) ≡ true
  unfolding stored
  stored_kept (reading (halted e) n part) h = refused_formed c e false f h.0
  stored_kept (reading (waits r s q) n part) h = stored_formed c r s q n part f h.0 h.1

  -- 19 is not answered, 21 changes nothing, and what the call does keeps it
  open_keeps : (next : Reply) → (c.finished ≡ false → well_formed next.check ≡ true) → well_formed (C.while_open c next).check ≡ true
  open_keeps next h =
      choose (λ (r : Reply). well_formed r.check ≡ true) (well_formed c)
      (λ _. choose (λ (r : Reply). well_formed r.check ≡ true) c.finished (λ _. f) h)
      (λ n. absurd (true≢false (sym f ∙ n)))

  pub feed_keeps : (p : List ℕ) → well_formed (feed_of c p).check ≡ true
  unfolding feed_of
  feed_keeps p =
      open_keeps (cond c.progress.refused (C.answering c) (C.answering (stored c (fed_by c p))))
      (λ e. choose (λ (r : Reply). well_formed r.check ≡ true) c.progress.refused (λ _. f)
      (λ g. stored_kept (fed_by c p) (fed_kept c p (record { formed = f; unfinished = e; unrefused = g }))))

  pub finish_keeps : well_formed (finish_of c).check ≡ true
  unfolding finish_of
  finish_keeps =
      open_keeps (cond c.progress.refused (C.answering (C.with_finish c)) (C.answering (C.ended c over)))
      (λ e. choose (λ (r : Reply). well_formed r.check ≡ true) c.progress.refused (λ _. f)
      (λ g. ended_formed c f over (closed_kept c [] (record { formed = f; unfinished = e; unrefused = g }))))
    where
      over : Result State Why.Outcome Refused
      over = close (rules_on c) limits (reader (known_on c)) (held_by c)

-- ---- refusals 19 to 23 return the check unchanged and write to no output

abbrev pub Unchanged : Check → Reply → Type 0
Unchanged c r = Misused r.answer → r.check ≡ c

-- an answer that stands is none of them
stands : (c : Check) (x : Check) → Unchanged c (C.answering x)
stands c x = by x.progress.refused
  where
    by : (b : Bool) → Misused (cond b (A.Refused x.progress.refusal x.progress.at x.progress.column) (A.Done 0)) → x ≡ c
    by true m = absurd m
    by false m = absurd m

open_unchanged : (c : Check) (next : Reply) → Unchanged c next → Unchanged c (C.while_open c next)
open_unchanged c next h =
    either (Unchanged c) (well_formed c) (either (Unchanged c) c.finished (λ m. refl) h) (λ m. refl)

pub feed_unchanged : (c : Check) (p : List ℕ) → Unchanged c (feed_of c p)
unfolding feed_of
feed_unchanged c p = open_unchanged c _ (either (Unchanged c) c.progress.refused (stands c c) (stands c (stored c (fed_by c p))))

pub finish_unchanged : (c : Check) → Unchanged c (finish_of c)
unfolding finish_of
finish_unchanged c =
    open_unchanged c _
    (either (Unchanged c) c.progress.refused (stands c (C.with_finish c)) (stands c (C.ended c (close (rules_on c) limits (reader (known_on c)) (held_by c)))))

-- asking never changes the check
module _ {X : Type 0} (c : Check) (out : List X) where
  abbrev pub Asked : Reply × List X → Type 0
  Asked r = (r.0.check ≡ c) × (Misused r.0.answer → r.1 ≡ out)

  done_asked : (next : Reply × List X) → Asked next → Asked (C.when_done c out next)
  done_asked next h = either Asked (well_formed c) (either Asked c.finished h (refl, λ m. refl)) (refl, λ m. refl)

  written_asked : (least : ℕ) (w : List X) → Asked (C.writing c out least w)
  written_asked least w = either Asked (ltb (length out) least) (refl, λ m. refl) (refl, λ m. absurd m)

  stated_asked : (next : Reply × List X) → Asked next → Asked (C.unless_refused c out next)
  stated_asked next h = either Asked c.progress.refused (refl, λ m. refl) h

pub result_asked : (c : Check) (out : List ℕ) → Asked c out (result_of c out)
unfolding result_of
result_asked c out = done_asked c out (C.writing c out 64 w) (written_asked c out 64 w)
  where
    w : List ℕ
    w = C.line_in c.progress

pub facts_asked : (c : Check) (out : List ℕ) → Asked c out (facts_of c out)
unfolding facts_of
facts_asked c out =
    done_asked c out (C.unless_refused c out (C.writing c out n w)) (stated_asked c out (C.writing c out n w) (written_asked c out n w))
  where
    n : ℕ
    n = c.model.sizes.facts

    w : List ℕ
    w = map bit (take c.model.sizes.facts c.facts)

pub numbers_asked : (c : Check) (out : List ℤ) → Asked c out (numbers_of c out)
unfolding numbers_of
numbers_asked c out =
    done_asked c out (C.unless_refused c out (C.writing c out n w)) (stated_asked c out (C.writing c out n w) (written_asked c out n w))
  where
    n : ℕ
    n = c.model.sizes.numbers

    w : List ℤ
    w = map shown (take c.model.sizes.numbers c.numbers)

-- ---- a load gives a well-formed check if it is not refused, else one fixed check that is not

abbrev pub fixed_check : Check
fixed_check = check_for (fixed_of Is.Loaded) 0

abbrev pub Opens : LoadAnswer → Check → Type 0
Opens Is.Loaded c = well_formed c ≡ true
Opens (Is.Domain k p) c = (c ≡ fixed_check) × (well_formed c ≡ false)
Opens (Is.Problem k p) c = (c ≡ fixed_check) × (well_formed c ≡ false)

pub fixed_one : (v : LoadAnswer) → check_for (fixed_of v) 0 ≡ fixed_check
unfolding fixed_of
fixed_one v = refl

pub load_opens : (s t : List ℕ) → Opens (open_of s t).answer (open_of s t).check
load_opens s t = by (read_domain s) refl
  where
    behind : (d : Domain) (m : ℕ) → read_domain s ≡ got d m → (x : Read Problem) → read_problem t d ≡ x → Opens (open_of s t).answer (open_of s t).check
    behind d m e (got p n) f = rw (opened s t d p m n e f []) (loaded_open s t d p m n e f).formed
    behind d m e (refused k q) f = rw (problem_opened s t k q d m e f) (fixed_one (Is.Problem k q), fixed_unformed (Is.Problem k q))

    by : (x : Read Domain) → read_domain s ≡ x → Opens (open_of s t).answer (open_of s t).check
    by (got d m) e = behind d m e (read_problem t d) refl
    by (refused k q) e = rw (domain_opened s t k q e) (fixed_one (Is.Domain k q), fixed_unformed (Is.Domain k q))
