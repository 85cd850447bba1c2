use Rattle.std.proofs.lemmas.Result.{err_from_is_err_and}
use mathlib.Core.Path.{sym, ◌∙◌}
use Rattle.domain_due.proofs.Dues.{new_refused, new_reserved, new_read}
use Rattle.domain_due.proofs.new_name.Goals as goal

pub returns-in_err-e : goal.returns-in_err-e
returns-in_err-e c = let p = err_from_is_err_and c.from_residual.result c.from_residual.ensures.1 in rw (p.1, p.2) (new_refused _ _ _ _ c.any_name.ensures.0 _ _ c.in_err-e.was)

pub returns-then-is_reserved : goal.returns-then-is_reserved
returns-then-is_reserved c = new_reserved _ _ _ _ c.any_name.ensures.0 _ _ c.in_ok-e.was (rw c.part_of.ensures at (sym c.is_reserved.ensures ∙ c.if-is_reserved.true))

pub returns : goal.returns
returns c = new_read _ _ _ _ c.any_name.ensures.0 _ _ c.in_ok-e.was (rw c.part_of.ensures at (sym c.is_reserved.ensures ∙ c.if-is_reserved.false)) c.any_name.ensures.1
