use Rattle.std.specs.Prelude.{Err}
use borrow.Enum.Refused.{opened}
use mathlib.Core.Path.{sym, ap, ◌∙◌}
use Rattle.plan_lines.proofs.Marks.{opening_else, opening_read}
use Rattle.plan_lines.proofs.reading.opening_due.Goals as goal

pub returns-in_default : goal.returns-in_default
returns-in_default c = opening_else _ _ _ _ c.sign_at-t.ensures (opened c.in_default.in_default-own.keys2) (ap Err c.not_due.ensures)

pub returns : goal.returns
returns c = opening_read _ _ _ _ (sym c.sign_at-t.ensures ∙ c.in-Open.is)
