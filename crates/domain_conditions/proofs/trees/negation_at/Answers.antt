use Rattle.std.proofs.lemmas.Result.{err_from_is_err_and}
use mathlib.Core.Path.{refl}
use native.Mathlib.Omega.{arith}
use Rattle.domain_meaning.specs.Due.{closing}
use Rattle.domain_expressions.proofs.Ends.{spent_refused}
use Rattle.domain_expressions.proofs.Operands.{spent_at}
use Rattle.domain_conditions.proofs.Places.{spent_closed}
use Rattle.domain_conditions.proofs.Whole.{negation_refused, negation_done}
use Rattle.domain_conditions.proofs.trees.negation_at.Goals as goal

pub returns-in_err-after : goal.returns-in_err-after
returns-in_err-after c = let e = err_from_is_err_and c.from_residual.result c.from_residual.ensures.1 in rw (e.1, e.2) (λ x g. negation_refused _ _ x c.args.left _ _ _ _ _ (c.negated_at.ensures.0 x g) _ _ c.in_err-after.was, spent_refused _ _ _ _ _ _ _ refl)

pub closed_at-requires : goal.closed_at-requires
closed_at-requires c = let w = spent_at _ _ _ _ _ _ _ _ c.in_ok-after.was c.negated_at.ensures.1 in w.1

pub returns : goal.returns
returns c = let w = spent_at _ _ _ _ _ _ _ _ c.in_ok-after.was c.negated_at.ensures.1 in (λ x g. negation_done _ _ x c.args.left _ _ _ _ _ (c.negated_at.ensures.0 x g) _ _ _ _ c.in_ok-after.was c.closed_at.ensures.0, spent_closed _ (closing _ _ c.in_ok-after.after) 0 _ _ _ c.in_ok-after.m _ _ c.closed_at.ensures.0 (omega (arith, w.0)) w.2 (omega (arith, w.3)) c.closed_at.ensures.1)
