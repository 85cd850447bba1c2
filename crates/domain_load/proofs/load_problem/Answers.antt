use mathlib.Core.Path.{refl, ap}
use Prim.Native.Nat.{ℕ}
use native.Mathlib.Omega.{arith}
use lib.ListN.{length, length-replicate}
use Rattle.domain_meaning.specs.Problem.{scope_of}
use Rattle.domain_meaning.specs.First.{no_facts, no_numbers}
use Rattle.domain_terms.specs.declared.scope.Counts.{Counts}
use Rattle.domain_actions.specs.Acted.{declarations}
use Rattle.domain_load.proofs.Preparing.{count_is, rows_prepared, goal_prepared}
use Rattle.domain_load.proofs.Kept.{few_acting, declared_acting, code_long, cells_long}
use Rattle.domain_load.proofs.Loading.{no_problem, understands, both_read}
use Rattle.domain_load.proofs.load_problem.Goals as goal

pub problem_at-p-requires : goal.problem_at-p-requires
unfolding no_facts no_numbers
problem_at-p-requires c = let d = c.requires.0 in let k = c.requires.1 in ((scope_of d d.constants, k.scope), k.long, refl, refl, ap (λ (c : Counts). c.variables) k.counted, ap (λ (c : Counts). c.in_action) k.counted)

pub firsts_of-firsts-requires : goal.firsts_of-firsts-requires
firsts_of-firsts-requires c = let d = c.requires.0 in let k = c.requires.1 in let u = understands c.args.problem.now d _ c.problem_at-p.result _ _ _ _ _ (c.problem_at-p.ensures d k.scope k.named) _ _ c.in-Ok.is in (scope_of d u.problem.objects, u.scope, u.fits)

pub sizes_of-sizes-requires : goal.sizes_of-sizes-requires
sizes_of-sizes-requires c = let d = c.requires.0 in let k = c.requires.1 in let u = understands c.args.problem.now d _ c.problem_at-p.result _ _ _ _ _ (c.problem_at-p.ensures d k.scope k.named) _ _ c.in-Ok.is in (scope_of d u.problem.objects, u.scope)

pub prepare-requires : goal.prepare-requires
prepare-requires c = let d = c.requires.0 in let k = c.requires.1 in let u = understands c.args.problem.now d _ c.problem_at-p.result _ _ _ _ _ (c.problem_at-p.ensures d k.scope k.named) _ _ c.in-Ok.is in (code_long d c.args.name.now c.args.code.now c.args.starts.now c.args.model k, omega (arith, count_is (length u.problem.objects) d.predicates d.functions _ (c.firsts_of-firsts.ensures (scope_of d u.problem.objects) u.scope), u.scope.objects.count, u.scope.objects.fits), few_acting d c.args.name.now c.args.code.now c.args.starts.now c.args.model k, omega (arith, length-replicate {A = ℕ} 33153 0))

pub prepare_goal-requires : goal.prepare_goal-requires
prepare_goal-requires c = let d = c.requires.0 in let k = c.requires.1 in let u = understands c.args.problem.now d _ c.problem_at-p.result _ _ _ _ _ (c.problem_at-p.ensures d k.scope k.named) _ _ c.in-Ok.is in cells_long d c.args.name.now c.args.code.now c.args.starts.now c.args.model k c.args.problem.now u.problem _ u.is _ u.aimed

pub returns-in-Err : goal.returns-in-Err
returns-in-Err c = λ d k. no_problem c.args.problem.now d _ c.problem_at-p.result _ _ _ _ _ (c.problem_at-p.ensures d k.scope k.named) _ _ _ c.in-Err.is c.fixed.ensures

pub returns : goal.returns
returns c = λ d k. let u = understands c.args.problem.now d _ c.problem_at-p.result _ _ _ _ _ (c.problem_at-p.ensures d k.scope k.named) _ _ c.in-Ok.is in both_read c.args.problem.now c.args.name.now c.args.code.now c.args.starts.now d c.args.model k u.problem _ u.is _ _ _ _ _ _ _ _ u.objects u.scope u.long u.aimed (rows_prepared (length u.problem.objects) d.predicates d.functions _ (c.firsts_of-firsts.ensures (scope_of d u.problem.objects) u.scope) _ _ (c.prepare.ensures (declarations d.actions) (declared_acting d c.args.name.now c.args.code.now c.args.starts.now c.args.model k))) (goal_prepared (length u.problem.objects) d.predicates d.functions _ (c.firsts_of-firsts.ensures (scope_of d u.problem.objects) u.scope) _ _ c.prepare_goal.ensures) (c.sizes_of-sizes.ensures (scope_of d u.problem.objects) u.scope) u.facted u.numbered
