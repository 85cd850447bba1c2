use native.Mathlib.Omega.{arith}
use Rattle.std.proofs.lemmas.Result.{err_from_is_err_and}
use Rattle.domain_meaning.specs.Domain.{scope_in}
use Rattle.domain_domain_text.proofs.Ways.{no_actions, no_end, known}
use Rattle.domain_domain_text.proofs.acting_at.Goals as goal

pub returns-in_err-after : goal.returns-in_err-after
returns-in_err-after c = λ v b. let p = err_from_is_err_and c.from_residual.result c.from_residual.ensures.1 in rw (p.1, p.2) (no_actions _ _ _ _ _ _ _ _ v b _ _ _ _ (c.actions_to.ensures.0 (scope_in v) _ b.scope (omega arith)) _ _ c.in_err-after.was)

pub returns-in_err-ending_at : goal.returns-in_err-ending_at
returns-in_err-ending_at c = λ v b. let p = err_from_is_err_and c.from_residual-in_err-ending_at.result c.from_residual-in_err-ending_at.ensures.1 in rw (p.1, p.2) (no_end _ _ _ _ _ _ _ _ v b _ _ _ _ (c.actions_to.ensures.0 (scope_in v) _ b.scope (omega arith)) _ _ c.in_ok-after.was _ c.ending_at.ensures _ _ c.in_err-ending_at.was)

pub returns : goal.returns
returns c = λ v b. known _ _ _ _ _ _ _ _ v b _ _ _ _ (c.actions_to.ensures.0 (scope_in v) _ b.scope (omega arith)) _ _ c.in_ok-after.was _ c.ending_at.ensures _ _ c.in_ok-ending_at.was
