-- Two queues in which the same points wait: what is said of the one holds of the other. So a call may lay its queue out in lent numbers. Assumes nothing.
use Prim.Native.Nat.{ℕ, ◌≤◌}
use mathlib.Core.Path.{◌≡◌, ap, ◌∙◌}
use native.Mathlib.Omega.{arith}
use lib.ListN.{length, length-take}
use Rattle.happening_meaning.specs.State.{State}
use Rattle.plan_waiting.specs.Waiting.{used, queue_of, sound_all}
use Rattle.plan_waiting.specs.declared.Queue.{Queue}
use Rattle.plan_waiting.proofs.Places.{queue_waits, sound_queue}
use Rattle.plan_feeding.specs.declared.PlanProgress.{PlanProgress}
use Rattle.plan_feeding.specs.Feeding.{check_in, Fit}

-- ---- the same places in use

module _ (q r : Queue) (same : used r ≡ used q) where
  pub check_alike : (s : State) (p : PlanProgress) → check_in s r p ≡ check_in s q p
  unfolding check_in
  check_alike s p = rw same

  pub fit_alike : (n : ℕ) (p : PlanProgress) → r.count ≡ q.count → Fit n q p → Fit n r p
  fit_alike n p e h = ((omega (arith, h.0.0), ap (sound_all n) same ∙ h.0.1), h.1, h.2, h.3, h.4)

-- ---- a queue made again

module _ (q r : Queue) (few : q.count ≤ 64) (made : r ≡ queue_of (used q)) where
  used_few : length (used q) ≤ 64
  used_few = omega (arith, length-take q.count q.slots)

  pub made_alike : used r ≡ used q
  made_alike = ap (λ (x : Queue). used x) made ∙ queue_waits (used q) used_few

  pub made_fit : (n : ℕ) (p : PlanProgress) → Fit n q p → Fit n r p
  made_fit n p h = (rw made (sound_queue n (used q) h.0.1 used_few), h.1, h.2, h.3, h.4)
