-- A run so far as the code's numbers say it, the rules that the prepared rows give, and what is known between two happenings.
use Rattle.std.specs.Prelude.{ℕ, ◌≤◌, ◌<◌, ◌≡◌, List, true, cond, ℤ, length, get_or}
use Rattle.domain_meaning.specs.Tables.{Table}
use Rattle.domain_meaning.specs.Conditions.{Cond}
use Rattle.domain_prepared_meaning.specs.Decode.{actions_at}
use Rattle.happening_meaning.specs.State.{State}
use Rattle.happening_meaning.specs.Happening.{is_done, promises}
use Rattle.happening_meaning.specs.declared.Outcome.{Outcome}
use Rattle.happening_forms.specs.Summed.{summed}
use Rattle.happening_state.specs.States.{state_in}
use Rattle.happening_meetings.specs.Marks.{no_marks}
use Rattle.plan_meaning.specs.Plan.{Run, going, failed, Rules}
use Rattle.plan_meaning.specs.Machine.{soonest}
use Rattle.plan_meaning.specs.Promised.{Act, rules_of}
use Rattle.plan_waiting.specs.Waiting.{waiting}
use Rattle.plan_waiting.specs.Lent.{place_at, queue_in, Kept}
use Rattle.plan_waiting.specs.declared.Queue.{Queue}
use Rattle.plan_running.specs.declared.Past.{Past}
use Rattle.plan_running.specs.declared.Workspace.{Workspace}
use Rattle.plan_running.specs.Lines.{slot_on, Holds, Spanned}

abbrev pub run_in : Past → State → Run State Outcome
run_in p s = cond (is_done p.outcome) (going s p.time) (failed s p.time p.outcome)

-- the points that wait where a call works
abbrev pub queue_held : Workspace → Queue
queue_held w = queue_in w.words w.objects w.count

-- by the promises of the layer of happenings: the goal is c, es are the actions' declarations, s the first state
abbrev pub rules_in : List ℕ → Cond → Table → State → Rules State Act Outcome
rules_in rows c es s = rules_of (promises summed c) (actions_at rows 0 es) s

-- t is the time of the next happening, below some bound
abbrev pub Next : Queue → ℕ → Type 0
Next q t = (b : ℕ) × (t ≡ soonest b (waiting q)) × (t < b)

-- ---- between two happenings

-- the length of prepared rows
abbrev pub Rowed : List ℕ → Type 0
Rowed rows = (385 ≤ length rows) × (length rows ≤ 65536)

-- of the first n points each end whose line starts below `get_or watches 64 0`: its watch is what it looks at, and its conditions over all hold in s
pub record Watched (rows words objects : List ℕ) (n : ℕ) (watches : List ℕ) (s : State) : Type 0 where
  pub long : length watches ≡ 65
  pub lines : (i : ℕ) → i < n → (slot_on words objects i).ends ≡ true → (slot_on words objects i).step.start < get_or watches 64 0
      → Holds rows (slot_on words objects i) (get_or watches (place_at words i) 0) s

-- all is ready for the next happening: n points wait, no mark is set, both arrays of numbers agree
pub record Poised (rows words objects : List ℕ) (n : ℕ) (marks watches facts : List ℕ) (numbers fresh : List ℤ) : Type 0 where
  pub kept : Kept words objects n
  pub clean : marks ≡ no_marks
  pub same : fresh ≡ numbers
  pub watched : Watched rows words objects n watches (state_in facts numbers)

abbrev pub IsPoised : List ℕ → Workspace → List ℕ → List ℤ → List ℤ → Type 0
IsPoised rows w facts numbers fresh = Poised rows w.words w.objects w.count w.marks w.watches facts numbers fresh

-- what a happening at t leaves beside the run so far: the points that wait as they were, and what is known of the lines under way
pub record Settled (rows : List ℕ) (t : ℕ) (before after : Workspace) (facts : List ℕ) (numbers fresh : List ℤ) : Type 0 where
  pub words : after.words ≡ before.words
  pub objects : after.objects ≡ before.objects
  pub count : after.count ≡ before.count
  pub same : fresh ≡ numbers
  pub clean : after.marks ≡ no_marks
  pub spanned : Spanned rows before.words before.objects before.count t after.watches (state_in facts numbers)
