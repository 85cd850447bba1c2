use Rattle.std.specs.Prelude.{Err}
use borrow.Enum.Refused.{opened}
use mathlib.Core.Path.{sym, ap, ◌∙◌}
use native.Mathlib.Omega.{arith}
use Rattle.plan_lines.specs.Reading.{span_answer}
use Rattle.plan_lines.proofs.Lasts.{lasting_missing, lasting_none, lasting_else, lasting_other, lasting_read_lem, lasting_needless}
use Rattle.plan_lines.proofs.reading.span_at.Goals as goal

pub returns-then-lasting : goal.returns-then-lasting
returns-then-lasting c = lasting_missing _ _ _ _ (sym c.sign_at-t.ensures ∙ c.in-End.is) c.if-lasting.true

pub returns-in-End : goal.returns-in-End
returns-in-End c = (lasting_none _ _ _ _ (sym c.sign_at-t.ensures ∙ c.in-End.is) c.if-lasting.false, omega arith)

pub returns-in_default-t : goal.returns-in_default-t
returns-in_default-t c = lasting_else _ _ _ _ _ c.sign_at-t.ensures (opened c.in_default.in_default-own.keys2) (opened c.in_default-t.in_default-t-own.keys2) (ap Err c.not_due.ensures)

pub returns-then-b-ne91 : goal.returns-then-b-ne91
returns-then-b-ne91 c = (lasting_other _ _ _ _ _ (sym c.sign_at-t.ensures ∙ c.in-Mark.is) _ c.if-b-ne91.true, tt)

pub returns-then-lasting-2 : goal.returns-then-lasting-2
returns-then-lasting-2 c = (c.duration_at.ensures.0 ∙ ap span_answer (lasting_read_lem _ _ _ _ _ (sym c.sign_at-t.ensures ∙ c.in-Mark.is) _ c.if-b-ne91.false c.if-lasting-2.true), c.duration_at.ensures.1)

pub returns : goal.returns
returns c = (lasting_needless _ _ _ _ _ (sym c.sign_at-t.ensures ∙ c.in-Mark.is) _ c.if-b-ne91.false c.if-lasting-2.false, tt)
