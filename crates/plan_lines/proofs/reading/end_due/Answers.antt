use Rattle.std.specs.Prelude.{Err}
use borrow.Enum.Refused.{opened}
use mathlib.Core.Path.{sym, ap, ◌∙◌}
use Rattle.plan_lines.proofs.Marks.{end_else, end_read_lem}
use Rattle.plan_lines.proofs.reading.end_due.Goals as goal

pub returns-in_default : goal.returns-in_default
returns-in_default c = end_else _ _ _ _ c.end_at-t.ensures (opened c.in_default.in_default-own.keys2) (ap Err c.not_due.ensures)

pub returns : goal.returns
returns c = end_read_lem _ _ _ (sym c.end_at-t.ensures ∙ c.in-End.is)
