use borrow.Enum.Refused.{opened}
use mathlib.Core.Path.{sym, ap, ◌∙◌}
use Rattle.std.specs.Prelude.{Err}
use Rattle.domain_due.proofs.Dues.{closing_else, closing_read}
use Rattle.domain_due.proofs.closing.Goals as goal

pub returns-in_default : goal.returns-in_default
returns-in_default c = closing_else _ _ _ _ _ c.token_at-t.ensures (opened c.in_default.in_default-own.keys2) (ap Err c.not_due.ensures)

pub returns : goal.returns
returns c = closing_read _ _ _ _ _ c.requires (sym c.token_at-t.ensures ∙ c.in-Close.is)
