-- A step that is taken, over plain values: the points that wait are counted, and its own are refused or wait with them. Assumes nothing.
use mathlib.Core.Path.{◌≡◌}
use Prim.Native.Nat.{◌+◌, ◌≤◌, ◌<◌}
use mathlib.Core.Bool.{false}
use mathlib.Core.List.{◌++◌}
use native.Mathlib.Omega.{arith}
use borrow.Author.Tests.{lt-ltb, le-ltb}
use lib.ListN.{length, length-map, length-append}
use lib.Seq.{length-take-le}
use Rattle.happening_meaning.specs.State.{State}
use Rattle.happening_meaning.specs.declared.Outcome.{Outcome}
use Rattle.plan_meaning.specs.Plan.{Rules, points_of}
use Rattle.plan_meaning.specs.Machine.{Check, drain, drained}
use Rattle.plan_meaning.specs.Promised.{Act}
use Rattle.plan_meaning.specs.Lines.{Refused, limits}
use Rattle.plan_meaning.specs.Stored.{step_in}
use Rattle.plan_meaning.specs.declared.Step.{Step}
use Rattle.plan_waiting.specs.Waiting.{waiting}
use Rattle.plan_waiting.specs.declared.Queue.{Queue}
use Rattle.plan_running.specs.Running.{run_in}
use Rattle.plan_running.specs.declared.Past.{Past}
use Rattle.plan_feeding.specs.declared.PlanProgress.{PlanProgress}
use Rattle.plan_feeding.specs.Feeding.{check_in, refusing, going}

-- ---- the points of a step after those that wait

module _ (q : Queue) (x : Step) where
  pub count_waits : length q.slots ≡ 64 → q.count ≤ 64 → length (waiting q) ≡ q.count
  count_waits h k = simp length-map (length-take-le q.count q.slots (omega arith))

  pub count_more : length q.slots ≡ 64 → q.count ≤ 64 → length (waiting q ++ points_of (step_in x)) ≡ q.count + length (points_of (step_in x))
  count_more h k = simp length-append (rw (count_waits h k))

  -- `before` is drained below the step's start, which leaves q
  module _ (R : Rules State Act Outcome) (before : Queue) (s₀ s : State) (past : Past) (p new : PlanProgress)
      (e : (run_in past s, waiting q) ≡ drain R (length (waiting before)) x.start (run_in p.past s₀) (waiting before))
      (long : length q.slots ≡ 64) (few : q.count ≤ 64) where
    abbrev after : Check State Act Outcome Refused
    after = drained R limits (step_in x) (drain R (length (waiting before)) x.start (run_in p.past s₀) (waiting before))

    pub crowded : new ≡ refusing p 18 (x.width + 1) → 64 < q.count + length (points_of (step_in x)) → x.line ≡ p.number → check_in s q new ≡ after
    unfolding check_in step_in
    crowded is h n = rw (is, ← e, lt-ltb 64 (length (waiting q ++ points_of (step_in x))) (omega (arith, count_more long few)), n)

    pub admitted : (r : Queue) → new ≡ going p x.start past → q.count + length (points_of (step_in x)) ≤ 64 → waiting r ≡ waiting q ++ points_of (step_in x)
        → p.refused ≡ false → check_in s r new ≡ after
    unfolding check_in step_in
    admitted r is h w n = rw (is, ← e, n, w, le-ltb 64 (length (waiting q ++ points_of (step_in x))) (omega (arith, count_more long few)))
