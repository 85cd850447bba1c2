use Rattle.std.proofs.lemmas.Result.{err_from_is_err_and}
use Rattle.domain_meaning.specs.Due.{closing}
use mathlib.Core.Path.{refl}
use Rattle.domain_due.proofs.Dues.{ahead_done}
use Rattle.domain_expressions.proofs.Ends.{spent_free, spent_refused}
use Rattle.domain_conditions.proofs.Facts.{closed_done, closed_refused}
use Rattle.domain_conditions.proofs.singles.closed_at.Goals as goal

pub returns-in_err-end : goal.returns-in_err-end
returns-in_err-end c = let e = err_from_is_err_and c.from_residual.result c.from_residual.ensures.1 in rw (e.1, e.2) (closed_refused (closing _ _ _) _ c.closing.ensures.0 _ c.args.left _ _ c.in_err-end.was, spent_refused _ _ _ _ _ _ _ refl)

pub returns : goal.returns
returns c = let w = ahead_done _ _ _ _ _ c.in_ok-end.was c.closing.ensures.1 in (closed_done (closing _ _ _) _ c.closing.ensures.0 _ c.args.left _ _ c.in_ok-end.was, spent_free _ _ _ _ _ w.0 w.1)
