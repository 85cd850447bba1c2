use Rattle.std.specs.Prelude.{Err}
use borrow.Enum.Refused.{opened}
use mathlib.Core.Path.{ap}
use mir.Syntax.{w64}
use mir.ValLaws.{to_z-of_z}
use native.Mathlib.Omega.{arith}
use Rattle.plan_lines.proofs.Marks.{start_else, start_below, start_read}
use Rattle.plan_lines.proofs.reading.start_at.Goals as goal

pub returns-in_default : goal.returns-in_default
returns-in_default c = start_else _ _ _ (opened c.in_default.in_default-own.keys2) (ap Err c.not_due.ensures)

pub returns-then-n-before : goal.returns-then-n-before
returns-then-n-before c = start_below _ _ _ _ _ _ c.in-Number.is (rw (to_z-of_z w64 c.in-Number.z (record { sfits = c.in-Number.known_told-1-own.given.0.1 })) at c.amount_of-n.ensures.0) c.if-n-before.true

pub returns : goal.returns
returns c = start_read _ _ _ _ _ _ c.in-Number.is (rw (to_z-of_z w64 c.in-Number.z (record { sfits = c.in-Number.known_told-1-own.given.0.1 })) at c.amount_of-n.ensures.0) (omega (arith, c.if-n-before.false)) c.amount_of-n.ensures.1
