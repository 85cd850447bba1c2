use Rattle.std.proofs.lemmas.Result.{err_from_is_err_and}
use mathlib.Core.Path.{refl}
use native.Mathlib.Omega.{arith}
use Rattle.domain_meaning.specs.Problem.{scope_of}
use Rattle.domain_problem_text.proofs.Settling.{onwards_at}
use Rattle.domain_problem_text.proofs.Posing.{domain_of, domain_scoped, grounded_got, grounded_not, premises_scope, posed_refused, posed}
use Rattle.domain_problem_text.proofs.problem_at.Goals as goal

pub returns-in_err-from : goal.returns-in_err-from
returns-in_err-from c = let p = err_from_is_err_and c.from_residual.result c.from_residual.ensures.1 in rw (p.1, p.2, ← c.in_err-from.was) (λ d h e. posed_refused _ d _ _ _ _ _ _ _ _ _ (grounded_not _ _ _ d _ _ _ (c.premises_at.ensures.0 d h e) c.in_err-from.was) c.in_err-from.was)

pub rest_at-requires : goal.rest_at-requires
rest_at-requires c = let w = onwards_at _ _ _ _ _ c.in_ok-from.was c.premises_at.ensures.1 in let h = domain_scoped c.args.name.now _ _ c.requires.0.0 c.requires.0.1 c.requires.4 c.requires.5 in (omega (arith, w.0), w.1, premises_scope _ _ _ _ _ _ (grounded_got _ _ _ (domain_of _ c.requires.0.0) _ _ _ (c.premises_at.ensures.0 (domain_of _ c.requires.0.0) h refl) c.in_ok-from.was), c.requires.2, c.requires.3)

pub returns : goal.returns
returns c = λ d h e. let x = (grounded_got _ _ _ d _ _ _ (c.premises_at.ensures.0 d h e) c.in_ok-from.was) in posed _ d _ _ _ _ _ _ _ _ _ x (c.rest_at.ensures (scope_of d x.objects) x.scope refl)
