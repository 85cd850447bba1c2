-- What the code keeps of a plan that is fed, as the machine's state.
use Rattle.std.specs.Prelude.{ℕ, ◌≤◌, ◌<◌, List, true, cond, take}
use Rattle.happening_meaning.specs.State.{State}
use Rattle.happening_meaning.specs.declared.Outcome.{Outcome}
use Rattle.plan_meaning.specs.Plan.{Result}
use Rattle.plan_meaning.specs.Plan as P
use Rattle.plan_meaning.specs.Machine.{Check, waits, halted}
use Rattle.plan_meaning.specs.Feed.{Feed, reading}
use Rattle.plan_meaning.specs.Promised.{Act}
use Rattle.plan_meaning.specs.Lines.{Refused}
use Rattle.plan_waiting.specs.Waiting.{waiting, Sound}
use Rattle.plan_waiting.specs.declared.Queue.{Queue}
use Rattle.plan_running.specs.Running.{run_in}
use Rattle.plan_running.specs.declared.Past.{Past}
use Rattle.plan_feeding.specs.declared.PlanProgress.{PlanProgress}

abbrev pub refused_in : PlanProgress → Refused
refused_in p = record { number = p.refusal; line = p.at; column = p.column }

unfoldable pub check_in : State → Queue → PlanProgress → Check State Act Outcome Refused
check_in s q p = cond p.refused (halted (refused_in p)) (waits (run_in p.past s) p.start (waiting q))

abbrev pub held_in : State → List ℕ → Queue → PlanProgress → Feed State Act Outcome Refused
held_in s line q p = reading (check_in s q p) p.number (take p.used line)

-- what has come of a plan that is finished
abbrev pub closed_in : State → PlanProgress → Result State Outcome Refused
closed_in s p = cond p.refused (P.refused (refused_in p)) (P.ended (run_in p.past s))

-- a refusal more, of the line that is read
abbrev pub refusing : PlanProgress → ℕ → ℕ → PlanProgress
refusing p k column =
    record {
      used = p.used;
      number = p.number;
      start = p.start;
      past = p.past;
      refused = true;
      refusal = k;
      at = p.number;
      column = column;
    }

-- another start and another run so far
abbrev pub going : PlanProgress → ℕ → Past → PlanProgress
going p start past =
    record {
      used = p.used;
      number = p.number;
      start = start;
      past = past;
      refused = p.refused;
      refusal = p.refusal;
      at = p.at;
      column = p.column;
    }

-- another line, with so many bytes so far
abbrev pub counted : PlanProgress → ℕ → ℕ → PlanProgress
counted p number used =
    record {
      used = used;
      number = number;
      start = p.start;
      past = p.past;
      refused = p.refused;
      refusal = p.refusal;
      at = p.at;
      column = p.column;
    }

-- the counters lie where the loops keep them: n is the number of actions
abbrev pub Fit : ℕ → Queue → PlanProgress → Type 0
Fit n q p = Sound n q × (p.start < 1000000000000) × (p.used ≤ 256) × (0 < p.number) × (p.number ≤ 1000001)
