use borrow.Enum.Refused.{opened}
use native.Mathlib.Omega.{arith}
use Rattle.domain_effects.proofs.Leading.{lead_all, lead_not, lead_assign, lead_raise, lead_lower, lead_fact, inside_all, inside_not, inside_change, inside_fact}
use Rattle.domain_effects.proofs.heads.led_by.Goals as goal

pub returns-in-And : goal.returns-in-And
returns-in-And c = (λ s d x f n. lead_all s d x f n _ _ _ c.in-And.is, inside_all _ _ _ _ (omega (arith, c.requires)) (omega arith) (omega arith))

pub returns-in-Not : goal.returns-in-Not
returns-in-Not c = (λ s d x f n. lead_not s d x f n _ _ _ c.in-Not.is, inside_not _ _ _ _ (omega (arith, c.requires)) (omega arith) (omega arith))

pub returns-in-Assign : goal.returns-in-Assign
returns-in-Assign c = (λ s d x f n. lead_assign s d x f n _ _ _ c.in-Assign.is, inside_change _ _ _ 12 _ _ (omega (arith, c.requires)) (omega arith) (omega arith) (omega arith))

pub returns-in-Increase : goal.returns-in-Increase
returns-in-Increase c = (λ s d x f n. lead_raise s d x f n _ _ _ c.in-Increase.is, inside_change _ _ _ 15 _ _ (omega (arith, c.requires)) (omega arith) (omega arith) (omega arith))

pub returns-in-Decrease : goal.returns-in-Decrease
returns-in-Decrease c = (λ s d x f n. lead_lower s d x f n _ _ _ c.in-Decrease.is, inside_change _ _ _ 18 _ _ (omega (arith, c.requires)) (omega arith) (omega arith) (omega arith))

pub returns-in_default : goal.returns-in_default
returns-in_default c = (λ s d x f n. lead_fact s d x f n c.args.h _ _ (opened c.in_default.in_default-own.keys6), inside_fact _ _ _ _ _ (omega (arith, c.requires)) (omega arith) (omega arith))
