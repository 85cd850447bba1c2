use mathlib.Core.Path.{ap}
use native.Mathlib.Omega.{arith}
use Rattle.happening_state.specs.States.{state_in}
use Rattle.plan_running.specs.Running.{rules_in, queue_held}
use Rattle.plan_running.proofs.Poising.{poised_enter}
use Rattle.plan_waiting.specs.Lent.{queue_in}
use Rattle.plan_waiting.proofs.LentPlaces.{slots_long}
use Rattle.plan_feeding.specs.declared.PlanProgress.{PlanProgress}
use Rattle.plan_feeding.proofs.Taking.{crowded, admitted}
use Rattle.plan_feeding.proofs.stepping.take_step.Goals as goal

pub returns-then-work-points_of-gt64 : goal.returns-then-work-points_of-gt64
returns-then-work-points_of-gt64 c = let a = c.args in let w = a.work.now in let drained = c.drain_below-past in let left = drained.new.self in (
  λ g es s h k. crowded (queue_held left) a.x (rules_in a.rows.now g es s) (queue_held w) (state_in a.facts.now a.numbers.now) (state_in drained.new.facts drained.new.numbers) drained.result a.p c.refuse.result
      (drained.ensures.0 g es s h k) (slots_long left.words left.objects) ((drained.ensures.1 c.requires.0.0 c.requires.0.1).0) c.refuse.ensures
      (omega (arith, c.if-work-points_of-gt64.true, c.points_of.ensures)) c.requires.2,
  λ n h k. drained.ensures.1 n h,
  ap (λ (p : PlanProgress). p.used) c.refuse.ensures,
  ap (λ (p : PlanProgress). p.number) c.refuse.ensures,
  λ m h k. rw c.refuse.ensures h,
  drained.ensures.3,
)

pub returns : goal.returns
returns c = let a = c.args in let w = a.work.now in let drained = c.drain_below-past in let left = drained.new.self in (
  λ g es s h k. admitted (queue_held left) a.x (rules_in a.rows.now g es s) (queue_held w) (state_in a.facts.now a.numbers.now) (state_in drained.new.facts drained.new.numbers) drained.result a.p c.begun.result
      (drained.ensures.0 g es s h k) (slots_long left.words left.objects) ((drained.ensures.1 c.requires.0.0 c.requires.0.1).0) (queue_in c.enter-work.new.words c.enter-work.new.objects c.enter-work.result) c.begun.ensures
      (omega (arith, c.if-work-points_of-gt64.false, c.points_of.ensures)) c.enter-work.ensures.1 c.requires.1,
  λ n h k. c.enter-work.ensures.2 n (drained.ensures.1 n h) k,
  ap (λ (p : PlanProgress). p.used) c.begun.ensures,
  ap (λ (p : PlanProgress). p.number) c.begun.ensures,
  λ m h k. rw c.begun.ensures k,
  poised_enter _ _ _ _ _ _ _ _ _ _ _ _ _ drained.ensures.3 c.enter-work.ensures.0 c.enter-work.ensures.3 drained.ensures.4,
)
