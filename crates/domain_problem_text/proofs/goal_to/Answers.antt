use Rattle.std.proofs.lemmas.Result.{err_from_is_err_and}
use Rattle.domain_problem_text.proofs.Aiming.{spent_at, reached_not, reached_open, reached}
use Rattle.domain_problem_text.proofs.goal_to.Goals as goal

pub closing-requires : goal.closing-requires
closing-requires c = (spent_at _ _ _ _ _ _ c.in_ok-after.was c.condition_at.ensures.1).1

pub returns-in_err-behind : goal.returns-in_err-behind
returns-in_err-behind c = let p = err_from_is_err_and c.from_residual-in_err-behind.result c.from_residual-in_err-behind.ensures.1 in rw (p.1, p.2, ← c.in_err-behind.was) λ x h. reached_open _ x _ _ _ _ (c.condition_at.ensures.0 x h) _ _ _ c.in_ok-after.was _ c.closing.ensures.0 _ _ c.in_err-behind.was

pub returns-in_err-after : goal.returns-in_err-after
returns-in_err-after c = let p = err_from_is_err_and c.from_residual.result c.from_residual.ensures.1 in rw (p.1, p.2) λ x h. reached_not _ x _ _ _ _ (c.condition_at.ensures.0 x h) _ _ c.in_err-after.was

pub returns : goal.returns
returns c = λ x h. reached _ x _ _ _ _ (c.condition_at.ensures.0 x h) _ _ _ c.in_ok-after.was _ c.closing.ensures.0 _ _ c.in_ok-behind.was (spent_at _ _ _ _ _ _ c.in_ok-after.was c.condition_at.ensures.1).2
