use mathlib.Core.Path.{refl}
use native.Mathlib.Omega.{arith}
use Rattle.domain_forms.proofs.Folding.{small}
use Rattle.domain_forms.proofs.forms.shift.Goals as goal

pub overflow_mul-result : goal.overflow_mul-result
overflow_mul-result c = omega (arith, small c.args.acc c.args.n (omega arith))

pub overflow_add-result : goal.overflow_add-result
overflow_add-result c = omega (arith, small c.args.acc c.args.n (omega arith))

pub returns : goal.returns
returns c = (refl, omega (arith, small c.args.acc c.args.n (omega arith)))
