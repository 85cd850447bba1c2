-- The check that a progress keeps: a plan that goes on, one that is refused, and one at another line. Assumes nothing.
use Prim.Native.Nat.{ℕ}
use mathlib.Core.Bool.{true, false}
use mathlib.Core.Path.{◌≡◌, refl}
use Rattle.happening_meaning.specs.State.{State}
use Rattle.plan_meaning.specs.Machine.{waits, halted}
use Rattle.plan_waiting.specs.Waiting.{waiting}
use Rattle.plan_waiting.specs.declared.Queue.{Queue}
use Rattle.plan_running.specs.Running.{run_in}
use Rattle.plan_feeding.specs.declared.PlanProgress.{PlanProgress}
use Rattle.plan_feeding.specs.Feeding.{refused_in, check_in, counted}

module _ (s : State) (q : Queue) (p : PlanProgress) where
  pub check_going : p.refused ≡ false → check_in s q p ≡ waits (run_in p.past s) p.start (waiting q)
  unfolding check_in
  check_going h = rw h

  pub check_halted : p.refused ≡ true → check_in s q p ≡ halted (refused_in p)
  unfolding check_in
  check_halted h = rw h

  pub check_counted : (number used : ℕ) → check_in s q (counted p number used) ≡ check_in s q p
  unfolding check_in
  check_counted number used = refl
