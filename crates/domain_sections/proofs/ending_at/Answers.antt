use borrow.Enum.Refused.{opened}
use mathlib.Core.Path.{sym, ap, ◌∙◌}
use Rattle.std.specs.Prelude.{Err}
use Rattle.domain_sections.proofs.Frames.{ending_section, ending_else, ending_behind, ending_read}
use Rattle.domain_sections.proofs.ending_at.Goals as goal

pub returns-in-Open : goal.returns-in-Open
returns-in-Open c = ending_section _ _ _ _ _ _ (sym c.token_at-t.ensures ∙ c.in-Open.is) c.token_at.ensures (ap Err c.not_due.ensures)

pub returns-in_default-t : goal.returns-in_default-t
returns-in_default-t c = ending_else _ _ _ _ c.token_at-t.ensures (opened c.in_default.in_default-own.keys2) (opened c.in_default-t.in_default-t-own.keys2) (ap Err c.not_due-in_default-t.ensures)

pub returns-in_default-u : goal.returns-in_default-u
returns-in_default-u c = ending_behind _ _ _ _ _ _ (sym c.token_at-t.ensures ∙ c.in-Close.is) c.token_at-u.ensures (opened c.in_default-u.in_default-u-own.keys2) (ap Err c.not_due-in_default-u.ensures)

pub returns : goal.returns
returns c = ending_read _ _ _ _ _ (sym c.token_at-t.ensures ∙ c.in-Close.is) (sym c.token_at-u.ensures ∙ c.in-End.is)
