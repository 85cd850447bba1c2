-- A plan's end, over plain values: all that waits happens, the goal is tested, and that is what the plan comes to. Assumes nothing.
use mathlib.Core.Path.{◌≡◌, ap, ◌∙◌}
use Prim.Native.Nat.{ℕ, suc, max}
use mathlib.Core.Bool.{true, false}
use mathlib.Core.List.{List}
use lib.ListN.{length}
use Rattle.happening_meaning.specs.State.{State}
use Rattle.happening_meaning.specs.declared.Outcome.{Outcome}
use Rattle.plan_meaning.specs.Plan.{Point, Run, Rules, Result, latest, judged, ended}
use Rattle.plan_meaning.specs.Machine.{waits, drain, finish}
use Rattle.plan_meaning.specs.Machine as M
use Rattle.plan_meaning.specs.Feed.{reading, close}
use Rattle.plan_meaning.specs.Text.{Reader}
use Rattle.plan_meaning.specs.Promised.{Act}
use Rattle.plan_meaning.specs.Lines.{Refused, limits}
use Rattle.plan_waiting.specs.Waiting.{waiting}
use Rattle.plan_waiting.specs.declared.Queue.{Queue}
use Rattle.plan_running.specs.Running.{run_in}
use Rattle.plan_running.specs.declared.Past.{Past}
use Rattle.plan_feeding.specs.declared.PlanProgress.{PlanProgress}
use Rattle.plan_feeding.specs.Feeding.{check_in, closed_in, going}
use Rattle.plan_feeding.proofs.Keeping.{check_going, check_halted}

module _ (R : Rules State Act Outcome) (s t : State) (q : Queue) (p : PlanProgress) where
  -- the points are drained below b, then the run is judged
  pub ran_out : (past last : Past) (left : List (Point Act)) (b : ℕ) → b ≡ suc (max p.start (latest (waiting q)))
      → (run_in past t, left) ≡ drain R (length (waiting q)) b (run_in p.past s) (waiting q)
      → run_in last t ≡ judged R (run_in past t)
      → ◌≡◌ {A = Result State Outcome Refused} (ended (run_in last t)) (finish R limits (waits (run_in p.past s) p.start (waiting q)))
  ran_out past last left b e d j = rw (← e) (ap ended (j ∙ ap (λ (rq : Run State Outcome × List (Point Act)). judged R rq.0) d))

  module _ (D : Reader Act Refused) (still : p.refused ≡ false) (line : List ℕ) (r : Queue) (new : PlanProgress)
      (taken : check_in t r new ≡ M.take R limits (check_in s q p) (D.line p.number p.start line)) where
    -- what the plan comes to is what its check comes to after the last line
    closes : close R limits D (reading (check_in s q p) p.number line) ≡ finish R limits (check_in t r new)
    closes = rw (taken, check_going s q p still)

    pub closed_refused : (u : State) → new.refused ≡ true → closed_in u new ≡ close R limits D (reading (check_in s q p) p.number line)
    closed_refused u h = rw (closes, check_halted t r new h, h)

    pub closed_run : (u : State) (past : Past) (last : PlanProgress) → new.refused ≡ false → last ≡ going new new.start past
        → ended (run_in past u) ≡ finish R limits (waits (run_in new.past t) new.start (waiting r))
        → closed_in u last ≡ close R limits D (reading (check_in s q p) p.number line)
    closed_run u past last h is run = rw (closes, check_going t r new h, is, h) run
