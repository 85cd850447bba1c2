-- What is kept of the machine's state is that state again: the records that feed and finish build are those of the contracts. Assumes nothing.
use mathlib.Core.Path.{◌≡◌, refl}
use mathlib.Core.List.{List, [], ◌∷◌, map}
use mathlib.Core.Bool.{true, false}
use Prim.Native.Nat.{ℕ, ◌≤◌}
use native.Mathlib.Omega.{arith}
use lib.ListN.{length, take}
use lib.Seq.{length-take-le}
use Rattle.domain_meaning.specs.Indexes.{padded}
use Rattle.happening_meaning.specs.State.{State}
use Rattle.happening_meaning.specs.declared.Outcome.{Outcome}
use Rattle.happening_meaning.specs.declared.Outcome.TheVariants as O
use Rattle.plan_running.specs.Running.{run_in}
use Rattle.plan_running.specs.declared.Past.{Past}
use Rattle.plan_meaning.specs.Stored.{point_in, slot_of}
use Rattle.plan_meaning.specs.declared.Slot.{Slot}
use Rattle.plan_meaning.proofs.Stored.{slot_back}
use Rattle.plan_waiting.specs.Waiting.{used, queue_of}
use Rattle.plan_waiting.specs.declared.Queue.{Queue}
use Rattle.plan_feeding.specs.Feeding.{refused_in, check_in, held_in, closed_in}
use Rattle.plan_feeding.specs.declared.PlanProgress.{PlanProgress}
use Rattle.check_meaning.specs.Answer.{last_state}
use Rattle.check_calls.specs.declared.Check.{Check}
use Rattle.check_calls.specs.Calls.{stored, ended, refused_from, settled, ended_from, empty_line, past_of}

-- ---- the run so far

last_of : (o : Outcome) (t : ℕ) (s : State) → last_state (run_in (record { outcome = o; time = t }) s) ≡ s
last_of O.Done t s = refl
last_of (O.Duration l) t s = refl
last_of (O.Condition l) t s = refl
last_of (O.Undefined l) t s = refl
last_of (O.Range l) t s = refl
last_of (O.Itself l) t s = refl
last_of (O.Conflict l m) t s = refl
last_of (O.Invariant l) t s = refl
last_of O.Goal t s = refl

past_of_lem : (o : Outcome) (t : ℕ) (s : State) → past_of (run_in (record { outcome = o; time = t }) s) ≡ record { outcome = o; time = t }
past_of_lem O.Done t s = refl
past_of_lem (O.Duration l) t s = refl
past_of_lem (O.Condition l) t s = refl
past_of_lem (O.Undefined l) t s = refl
past_of_lem (O.Range l) t s = refl
past_of_lem (O.Itself l) t s = refl
past_of_lem (O.Conflict l m) t s = refl
past_of_lem (O.Invariant l) t s = refl
past_of_lem O.Goal t s = refl

pub last_back : (p : Past) (s : State) → last_state (run_in p s) ≡ s
last_back p s = last_of p.outcome p.time s

pub past_back : (p : Past) (s : State) → past_of (run_in p s) ≡ p
past_back p s = past_of_lem p.outcome p.time s

-- ---- the points that wait

pub slots_back : (l : List Slot) → map slot_of (map point_in l) ≡ l
slots_back [] = refl
slots_back (s ∷ l) = λ i. slot_back s i ∷ slots_back l i

-- ---- the whole

module _ (c : Check) (s : State) (line : List ℕ) (q : Queue) (p : PlanProgress) where
  kept_line : p.used ≤ 256 → length line ≡ 257 → length (take p.used line) ≡ p.used
  kept_line h k = length-take-le p.used line (omega (arith, h, k))

  pub stored_held : p.refused ≡ false → p.used ≤ 256 → length line ≡ 257
      → stored c (held_in s line q p)
      ≡ record {
        model = c.model;
        facts = s.facts;
        numbers = s.numbers;
        queue = queue_of (used q);
        line = padded 257 (take p.used line);
        progress = settled p;
        finished = false;
      }
  unfolding stored check_in
  stored_held free h k = rw (free) (λ i. record {
    model = c.model;
    facts = (last_back p.past s i).facts;
    numbers = (last_back p.past s i).numbers;
    queue = queue_of (slots_back (used q) i);
    line = padded 257 (take p.used line);
    progress = record {
      used = kept_line h k i;
      number = p.number;
      start = p.start;
      past = past_back p.past s i;
      refused = false;
      refusal = 0;
      at = 0;
      column = 0;
    };
    finished = false;
  })

  pub stored_refused : p.refused ≡ true → stored c (held_in s line q p) ≡ refused_from c.model (refused_in p) false
  unfolding stored check_in
  stored_refused stopped = rw (stopped)

module _ (c : Check) (s : State) (p : PlanProgress) where
  pub ended_refused : p.refused ≡ true → ended c (closed_in s p) ≡ refused_from c.model (refused_in p) true
  unfolding ended
  ended_refused stopped = rw (stopped)

  pub ended_run : p.refused ≡ false
      → ended c (closed_in s p)
      ≡ record {
        model = c.model;
        facts = s.facts;
        numbers = s.numbers;
        queue = queue_of [];
        line = empty_line;
        progress =
            ended_from p.past;
        finished = true;
      }
  unfolding ended
  ended_run free = rw (free) (λ i. record {
    model = c.model;
    facts = (last_back p.past s i).facts;
    numbers = (last_back p.past s i).numbers;
    queue = queue_of [];
    line = empty_line;
    progress = ended_from (past_back p.past s i);
    finished = true;
  })
