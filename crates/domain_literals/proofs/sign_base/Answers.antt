use mathlib.Core.Path.{sym, ◌∙◌}
use Prim.Native.Nat.{◌-◌}
use native.Mathlib.Omega.{arith}
use mir.Syntax.{w64}
use mir.ValLaws.{to_z-of_z}
use Rattle.domain_literals.specs.Literal.{sign_base}
use Rattle.domain_literals.proofs.sign_base.Goals as goal

pub returns-then-is_negative : goal.returns-then-is_negative
unfolding sign_base
returns-then-is_negative c = (rw (rw (to_z-of_z w64 _ c.ranges.z) at (sym c.is_negative.ensures ∙ c.if-is_negative.true)), omega arith)

pub returns : goal.returns
unfolding sign_base
returns c = (rw (rw (to_z-of_z w64 _ c.ranges.z) at (sym c.is_negative.ensures ∙ c.if-is_negative.false)), omega arith)
