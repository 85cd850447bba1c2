use Rattle.std.proofs.lemmas.Result.{err_from_is_err_and}
use borrow.Enum.Refused.{opened as one_of}
use mathlib.Core.Path.{refl, sym, ap, ◌∙◌}
use native.Mathlib.Omega.{arith}
use Rattle.domain_due.proofs.Dues.{ahead_done}
use Rattle.domain_expressions.proofs.Passed.{passed}
use Rattle.domain_expressions.proofs.Ends.{spent_refused}
use Rattle.domain_expressions.proofs.Operands.{spent_at}
use Rattle.domain_effects.proofs.Facts.{opened, spent_done}
use Rattle.domain_effects.proofs.Deleting.{deletion_unopened, deletion_refused, deletion_unclosed, deletion_stored}
use Rattle.domain_effects.proofs.singles.deletion_at.Goals as goal

pub returns-in_err-next : goal.returns-in_err-next
returns-in_err-next c = let p = err_from_is_err_and c.from_residual.result c.from_residual.ensures.1 in rw (p.1, p.2) ((λ x h. deletion_unopened _ _ x c.args.left _ _ _ _ c.opening.ensures.0 _ _ _ _ c.in_err-next.was (sym (ap (passed c.args.left) c.in_err-next.was)), spent_refused _ _ _ _ _ _ _ refl))

pub overflow_sub-d : goal.overflow_sub-d
overflow_sub-d c = (opened _ _ _ _ _ (sym c.opening.ensures.0 ∙ c.in_ok-next.was))

pub deleted_at-requires : goal.deleted_at-requires
deleted_at-requires c = let w = ahead_done _ _ _ _ _ c.in_ok-next.was c.opening.ensures.1 in (w.1, c.requires.1, omega (arith, w.0, w.1, c.requires.2))

pub returns-in_err-end : goal.returns-in_err-end
returns-in_err-end c = let p = err_from_is_err_and c.from_residual-in_err-end.result c.from_residual-in_err-end.ensures.1 in rw (p.1, p.2, ← c.in_err-end.was) ((λ x h. deletion_refused _ _ x c.args.left _ _ _ _ c.opening.ensures.0 _ _ c.in_ok-next.was _ _ (c.deleted_at.ensures.0 x h) _ _ c.in_err-end.was, spent_refused _ _ _ _ _ _ _ c.in_err-end.was))

pub closing-requires : goal.closing-requires
closing-requires c = let v = spent_at 1 _ _ _ _ _ _ _ c.in_ok-end.was c.deleted_at.ensures.1 in v.1

pub returns-in_err-after : goal.returns-in_err-after
returns-in_err-after c = let p = err_from_is_err_and c.from_residual-in_err-after.result c.from_residual-in_err-after.ensures.1 in rw (p.1, p.2) ((λ x h. deletion_unclosed _ _ x c.args.left _ _ _ _ c.opening.ensures.0 _ _ c.in_ok-next.was _ _ (c.deleted_at.ensures.0 x h) _ _ _ c.in_ok-end.was _ c.closing.ensures.0 _ _ _ _ c.in_err-after.was (sym (ap (passed c.args.left) c.in_err-after.was)), spent_refused _ _ _ _ _ _ _ refl))

pub returns : goal.returns
returns c = let w = ahead_done _ _ _ _ _ c.in_ok-next.was c.opening.ensures.1 in let v = spent_at 1 _ _ _ _ _ _ _ c.in_ok-end.was c.deleted_at.ensures.1 in let k = ahead_done _ _ _ _ _ c.in_ok-after.was c.closing.ensures.1 in (λ x h. deletion_stored _ _ x c.args.left _ _ _ _ c.opening.ensures.0 _ _ c.in_ok-next.was _ _ (c.deleted_at.ensures.0 x h) _ _ _ c.in_ok-end.was _ c.closing.ensures.0 _ _ c.in_ok-after.was, spent_done _ _ _ _ _ _ (omega (arith, w.0, v.0, k.0)) k.1 v.2 (omega (arith, w.0, v.3, k.0)))
