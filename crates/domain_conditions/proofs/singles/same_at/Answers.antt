use Rattle.std.proofs.lemmas.Result.{err_from_is_err_and}
use mathlib.Core.Path.{refl}
use Rattle.domain_meaning.specs.Due.{closing}
use native.Mathlib.Omega.{arith}
use Rattle.domain_due.proofs.Dues.{ahead_done}
use Rattle.domain_terms.proofs.Givens.{cell_at}
use Rattle.domain_expressions.proofs.Ends.{spent_refused}
use Rattle.domain_conditions.proofs.Equals.{same_first, same_second, same_done}
use Rattle.domain_conditions.proofs.Places.{spent_closed}
use Rattle.domain_conditions.proofs.singles.same_at.Goals as goal

pub returns-in_err-mid : goal.returns-in_err-mid
returns-in_err-mid c = let e = err_from_is_err_and c.from_residual.result c.from_residual.ensures.1 in rw (e.1, e.2) (λ x h. same_first _ _ x _ c.args.left _ _ _ _ (c.argument_at.ensures.0 x h) _ _ _ c.in_err-mid.was, spent_refused _ _ _ _ _ _ _ refl)

pub argument_at-requires-2 : goal.argument_at-requires-2
argument_at-requires-2 c = let a₁ = ahead_done _ _ _ _ _ c.in_ok-mid.was c.argument_at.ensures.2 in (a₁.1, c.requires.1)

pub returns-in_err-end : goal.returns-in_err-end
returns-in_err-end c = let e = err_from_is_err_and c.from_residual-in_err-end.result c.from_residual-in_err-end.ensures.1 in rw (e.1, e.2) (λ x h. same_second _ _ x _ c.args.left _ _ _ _ (c.argument_at.ensures.0 x h) _ _ c.in_ok-mid.was _ (c.argument_at-2.ensures.0 x h) _ _ _ c.in_err-end.was, spent_refused _ _ _ _ _ _ _ refl)

pub put-requires-2 : goal.put-requires-2
put-requires-2 c = omega (arith, cell_at _ _ _ c.in_ok-mid.was c.argument_at.ensures.1)

pub put-requires-3 : goal.put-requires-3
put-requires-3 c = omega (arith, cell_at _ _ _ c.in_ok-end.was c.argument_at-2.ensures.1)

pub closed_at-requires : goal.closed_at-requires
closed_at-requires c = let a₂ = ahead_done _ _ _ _ _ c.in_ok-end.was c.argument_at-2.ensures.2 in a₂.1

pub returns : goal.returns
returns c = let a₁ = ahead_done _ _ _ _ _ c.in_ok-mid.was c.argument_at.ensures.2 in let a₂ = ahead_done _ _ _ _ _ c.in_ok-end.was c.argument_at-2.ensures.2 in (λ x h. same_done _ _ x _ c.args.left _ _ _ _ (c.argument_at.ensures.0 x h) _ _ c.in_ok-mid.was _ (c.argument_at-2.ensures.0 x h) _ _ _ _ _ c.in_ok-end.was c.chosen.ensures (rw (c.put-2.ensures, c.put.ensures) at c.put-3.ensures) c.closed_at.ensures.0, spent_closed _ (closing _ _ c.in_ok-end.end) 2 _ _ _ c.args.left _ _ c.closed_at.ensures.0 (omega (arith, a₁.0, a₂.0)) (omega arith) (omega (arith, a₁.0, a₂.0)) c.closed_at.ensures.1)
