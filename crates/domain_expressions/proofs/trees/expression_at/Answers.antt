use Rattle.std.proofs.lemmas.Result.{err_from_is_err_and}
use mathlib.Core.Path.{refl}
use Rattle.domain_expressions.proofs.Whole.{own_places, own_done, own_refused, over_refused}
use Rattle.domain_due.proofs.Dues.{ahead_refused}
use Rattle.domain_expressions.proofs.trees.expression_at.Goals as goal

pub returns-in_err-end : goal.returns-in_err-end
returns-in_err-end c = let e = err_from_is_err_and c.from_residual.result c.from_residual.ensures.1 in rw (e.1, e.2) (λ x h. own_refused _ _ _ _ _ _ x _ (c.expr_at.ensures.0 x h) _ _ c.in_err-end.was, ahead_refused _ _ _ _ _ refl, over_refused _ _ _ _)

pub returns : goal.returns
returns c = let w = own_places _ _ _ _ c.expr_at.ensures.1 _ _ _ c.in_ok-end.was in (λ x h. own_done _ _ _ _ _ _ x _ (c.expr_at.ensures.0 x h) _ _ _ c.in_ok-end.was, w.0, w.1)
