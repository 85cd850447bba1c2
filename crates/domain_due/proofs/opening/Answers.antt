use borrow.Enum.Refused.{opened}
use mathlib.Core.Path.{sym, ap, ◌∙◌}
use Rattle.std.specs.Prelude.{Err}
use Rattle.domain_due.proofs.Dues.{opening_else, opening_deep, opening_read}
use Rattle.domain_due.proofs.opening.Goals as goal

pub returns-in_default : goal.returns-in_default
returns-in_default c = opening_else _ _ _ _ _ c.token_at-t.ensures (opened c.in_default.in_default-own.keys2) (ap Err c.not_due.ensures)

pub returns-then-d-eq0 : goal.returns-then-d-eq0
returns-then-d-eq0 c = opening_deep _ _ _ _ _ (sym c.token_at-t.ensures ∙ c.in-Open.is) c.if-d-eq0.true

pub returns : goal.returns
returns c = opening_read _ _ _ _ _ c.requires (sym c.token_at-t.ensures ∙ c.in-Open.is) c.if-d-eq0.false
