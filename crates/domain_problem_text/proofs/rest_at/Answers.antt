use Rattle.std.proofs.lemmas.Result.{err_from_is_err_and}
use mathlib.Core.Path.{refl}
use native.Mathlib.Omega.{arith}
use Rattle.domain_problem_text.proofs.Starting.{started_got, started_not}
use Rattle.domain_problem_text.proofs.Aiming.{aimed_got, aimed_not}
use Rattle.domain_problem_text.proofs.Settling.{onwards_at, settled_unstarted, settled_aimless, settled_endless, settled}
use Rattle.domain_problem_text.proofs.rest_at.Goals as goal

pub returns-in_err-a : goal.returns-in_err-a
returns-in_err-a c = let p = err_from_is_err_and c.from_residual.result c.from_residual.ensures.1 in rw (p.1, p.2, ← c.in_err-a.was) (λ x h f. settled_unstarted _ x _ _ _ _ _ _ _ _ (started_not x _ _ _ _ _ _ (c.init_at.ensures.0 x h f) c.in_err-a.was) c.in_err-a.was)

pub goal_at-requires : goal.goal_at-requires
goal_at-requires c = let w = onwards_at _ _ _ _ _ c.in_ok-a.was c.init_at.ensures.1 in (omega (arith, w.0, c.requires.0), w.1, c.requires.2)

pub returns-in_err-b : goal.returns-in_err-b
returns-in_err-b c = let p = err_from_is_err_and c.from_residual-in_err-b.result c.from_residual-in_err-b.ensures.1 in rw (p.1, p.2, ← c.in_err-b.was) (λ x h f. settled_aimless _ x _ _ _ _ _ _ _ _ (started_got x _ _ _ _ _ _ (c.init_at.ensures.0 x h f) c.in_ok-a.was) _ _ (aimed_not _ x _ _ _ _ _ _ _ (c.goal_at.ensures x h) c.in_err-b.was) c.in_err-b.was)

pub returns-in_err-end : goal.returns-in_err-end
returns-in_err-end c = let p = err_from_is_err_and c.from_residual-in_err-end.result c.from_residual-in_err-end.ensures.1 in rw (p.1, p.2, ← c.in_err-end.was) (λ x h f. settled_endless _ x _ _ _ _ _ _ _ _ (started_got x _ _ _ _ _ _ (c.init_at.ensures.0 x h f) c.in_ok-a.was) _ (aimed_got _ x _ _ _ _ _ _ _ (c.goal_at.ensures x h) c.in_ok-b.was) _ _ c.ending_at.ensures c.in_err-end.was)

pub returns : goal.returns
returns c = λ x h f. settled _ x _ _ _ _ _ _ _ _ (started_got x _ _ _ _ _ _ (c.init_at.ensures.0 x h f) c.in_ok-a.was) _ (aimed_got _ x _ _ _ _ _ _ _ (c.goal_at.ensures x h) c.in_ok-b.was) _ _ _ _ c.ending_at.ensures c.in_ok-end.was h.objects.count refl
