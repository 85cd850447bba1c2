use Rattle.std.specs.Prelude.{Err}
use borrow.Enum.Refused.{opened}
use mathlib.Core.Path.{sym, ap, ◌∙◌}
use Rattle.plan_lines.proofs.Marks.{mark_else, mark_read, mark_other}
use Rattle.plan_lines.proofs.reading.mark_due.Goals as goal

pub returns-in_default : goal.returns-in_default
returns-in_default c = mark_else _ _ _ _ _ c.sign_at-t.ensures (opened c.in_default.in_default-own.keys2) (ap Err c.not_due.ensures)

pub returns-then-c-b : goal.returns-then-c-b
returns-then-c-b c = mark_read _ _ _ _ _ _ (sym c.sign_at-t.ensures ∙ c.in-Mark.is) c.if-c-b.true

pub returns : goal.returns
returns c = mark_other _ _ _ _ _ _ (sym c.sign_at-t.ensures ∙ c.in-Mark.is) c.if-c-b.false
