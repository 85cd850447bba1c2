use borrow.Enum.Refused.{opened}
use Rattle.std.specs.Prelude.{Err}
use mathlib.Core.Path.{sym, ap, ◌∙◌}
use Rattle.domain_expressions.proofs.Ends.{end_close, end_many, end_number, end_else}
use Rattle.domain_expressions.proofs.leaves.operands_end.Goals as goal

pub returns-in-Close : goal.returns-in-Close
returns-in-Close c = end_close _ _ c.args.left _ _ _ c.requires (sym c.token_at-t.ensures ∙ c.in-Close.is)

pub returns-then-left-eq0 : goal.returns-then-left-eq0
returns-then-left-eq0 c = end_many _ _ c.args.left _ _ _ _ (sym c.token_at-t.ensures ∙ c.in-Number.is) c.if-left-eq0.true

pub returns-in-Number : goal.returns-in-Number
returns-in-Number c = end_number _ _ c.args.left _ _ _ _ (sym c.token_at-t.ensures ∙ c.in-Number.is) c.if-left-eq0.false

pub returns : goal.returns
returns c = end_else _ _ c.args.left _ _ _ c.token_at-t.ensures (opened c.in_default.in_default-own.keys2) (opened c.in_default-t.in_default-t-own.keys2) (ap Err c.not_due.ensures)
