use Rattle.std.proofs.lemmas.Result.{err_from_is_err_and}
use mathlib.Core.Path.{refl}
use Rattle.domain_expressions.proofs.Ends.{joined_refused, joined_done, spent_refused, spent_free}
use Rattle.domain_due.proofs.Dues.{ahead_done}
use Rattle.domain_expressions.proofs.leaves.joined_at.Goals as goal

pub returns-in_err-n : goal.returns-in_err-n
returns-in_err-n c = let e = err_from_is_err_and c.from_residual.result c.from_residual.ensures.1 in rw (e.1, e.2) (joined_refused _ _ _ c.args.left _ _ _ c.operands_end.ensures.0 _ _ _ c.in_err-n.was, spent_refused _ _ _ _ _ _ _ refl)

pub returns : goal.returns
returns c = let w = ahead_done _ _ _ _ _ c.in_ok-n.was c.operands_end.ensures.1 in (joined_done _ _ _ c.args.left _ _ _ c.operands_end.ensures.0 _ _ _ _ c.in_ok-n.was c.operator_cell.ensures c.put.ensures, spent_free _ _ _ _ _ w.0 w.1)
