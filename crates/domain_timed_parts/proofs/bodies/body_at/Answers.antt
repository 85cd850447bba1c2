use Rattle.std.proofs.lemmas.Result.{err_from_is_err_and}
use native.Mathlib.Omega.{arith}
use Rattle.domain_expressions.proofs.Ends.{spent_refused}
use Rattle.domain_expressions.proofs.Operands.{spent_at}
use Rattle.domain_timed_parts.proofs.Bodied.{body_condition, body_refused, body_effects, spent_more, spent_by}
use Rattle.domain_timed_parts.proofs.bodies.body_at.Goals as goal

pub returns-then-over : goal.returns-then-over
returns-then-over c = (λ x h. body_condition _ x _ c.args.left _ _ _ _ _ _ c.if-over.true (c.condition_at.ensures.0 x h), spent_more _ 1 _ _ _ c.condition_at.ensures.1)

pub returns-in_err-after : goal.returns-in_err-after
returns-in_err-after c = let p = err_from_is_err_and c.from_residual.result c.from_residual.ensures.1 in rw (p.1, p.2, ← c.in_err-after.was) ((λ x h. body_refused _ x _ c.args.left _ _ _ _ _ _ c.if-over.false (c.effect_at.ensures.0 x h) _ _ c.in_err-after.was, spent_refused _ _ _ _ _ _ _ c.in_err-after.was))

pub overflow_add-result : goal.overflow_add-result
overflow_add-result c = let w = spent_at 0 _ _ _ _ _ _ _ c.in_ok-after.was c.effect_at.ensures.1 in omega (arith, w.0, w.1, w.3)

pub returns : goal.returns
returns c = let w = spent_at 0 _ _ _ _ _ _ _ c.in_ok-after.was c.effect_at.ensures.1 in (λ x h. body_effects _ x _ c.args.left _ _ _ _ _ _ c.if-over.false (c.effect_at.ensures.0 x h) _ _ _ _ c.in_ok-after.was c.put.ensures, spent_by 1 _ _ _ _ _ _ w.0 w.1 (omega (arith, w.2)) (omega (arith, w.3)))
