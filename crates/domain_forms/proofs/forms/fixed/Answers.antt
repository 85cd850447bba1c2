use native.Mathlib.Omega.{arith}
use Rattle.domain_forms.proofs.Folding.{fixed_object, fixed_parameter}
use Rattle.domain_forms.proofs.forms.fixed.Goals as goal

pub returns-then-x-lt64 : goal.returns-then-x-lt64
returns-then-x-lt64 c = (fixed_object _ c.if-x-lt64.true, omega arith)

pub returns : goal.returns
returns c = (fixed_parameter _ c.if-x-lt64.false, omega arith)
