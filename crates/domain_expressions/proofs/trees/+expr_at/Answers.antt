use Rattle.std.proofs.lemmas.Result.{err_from_is_err_and}
use Rattle.std.specs.Prelude.{Ok}
use mathlib.Core.Path.{refl, ap, ◌∙◌}
use native.Mathlib.Omega.{arith}
use mir.Syntax.{w64}
use mir.ValLaws.{to_z-of_z}
use Rattle.domain_expressions.proofs.Ends.{spent_refused}
use Rattle.domain_expressions.proofs.Operands.{spent_by, spent_at, spent_within}
use Rattle.domain_expressions.proofs.Whole.{number_place, function_place, operation_place, lone_in, whole_number, whole_function, whole_refused, whole_first, whole_lone, whole_second, whole_two}
use Rattle.domain_expressions.proofs.trees.+expr_at.Goals as goal

pub put_number-requires : goal.put_number-requires
put_number-requires t c = let w = number_place _ _ _ _ _ _ _ (c.in_ok-head.was ∙ ap Ok c.in-Number.is) c.begun_at.ensures.1 in rw (to_z-of_z w64 c.in-Number.z (record { sfits = c.in-Number.known_told-in-Number-1-own.given.0.1 })) (w.3, omega (arith, w.0, w.1, w.2, c.requires.2))

pub overflow_sub-d : goal.overflow_sub-d
overflow_sub-d t c = let w = function_place _ _ _ _ _ _ (c.in_ok-head.was ∙ ap Ok c.in-Function.is) c.begun_at.ensures.1 in omega (arith, w.2)

pub function_at-requires : goal.function_at-requires
function_at-requires t c = let w = function_place _ _ _ _ _ _ (c.in_ok-head.was ∙ ap Ok c.in-Function.is) c.begun_at.ensures.1 in (w.1, c.requires.1, omega (arith, w.0, w.1, c.requires.2))

pub overflow_sub-d-in-Operation : goal.overflow_sub-d-in-Operation
overflow_sub-d-in-Operation t c = let w = operation_place _ _ _ _ _ _ _ (c.in_ok-head.was ∙ ap Ok c.in-Operation.is) c.begun_at.ensures.1 in omega (arith, w.2)

pub expr_at-requires : goal.expr_at-requires
expr_at-requires t c = let w = operation_place _ _ _ _ _ _ _ (c.in_ok-head.was ∙ ap Ok c.in-Operation.is) c.begun_at.ensures.1 in (omega (arith, c.decreases, w.0, w.1), (w.1, c.requires.1, omega (arith, w.0, w.1, c.requires.2)))

pub returns-in_err-after-in-Operation : goal.returns-in_err-after-in-Operation
returns-in_err-after-in-Operation t c = let e = err_from_is_err_and c.from_residual-in_err-after-in-Operation.result c.from_residual-in_err-after-in-Operation.ensures.1 in rw (e.1, e.2) (λ x h. whole_first _ x _ c.args.left _ _ (c.begun_at.ensures.0 x) c.in-Operation.minus c.in-Operation.e c.in-Operation.m (c.in_ok-head.was ∙ ap Ok c.in-Operation.is) _ _ _ _ (c.expr_at.ensures.0 x h) _ _ c.in_err-after-in-Operation.was, spent_refused _ _ _ _ _ _ _ refl)

pub returns-in-Some : goal.returns-in-Some
returns-in-Some t c = let w = operation_place _ _ _ _ _ _ _ (c.in_ok-head.was ∙ ap Ok c.in-Operation.is) c.begun_at.ensures.1 in let sx = spent_at 1 _ _ _ _ _ _ _ c.in_ok-after-in-Operation.was c.expr_at.ensures.1 in let z = lone_in _ c.in_ok-after-in-Operation.after c.in-Some.n c.in-Operation.minus _ sx.1 c.lone_end.ensures c.in-Some.is in (λ x h. whole_lone _ x _ c.args.left _ _ (c.begun_at.ensures.0 x) c.in-Operation.minus c.in-Operation.e c.in-Operation.m (c.in_ok-head.was ∙ ap Ok c.in-Operation.is) _ _ _ _ (c.expr_at.ensures.0 x h) _ _ _ c.in_ok-after-in-Operation.was _ c.lone_end.ensures _ _ c.in-Some.is c.put.ensures, spent_by _ _ _ _ _ _ (omega (arith, w.0, sx.0, z.0)) z.1 (omega (arith, sx.2)) (omega (arith, w.0, sx.3, z.0)))

pub overflow_sub-d-in-Operation-2 : goal.overflow_sub-d-in-Operation-2
overflow_sub-d-in-Operation-2 t c = let w = operation_place _ _ _ _ _ _ _ (c.in_ok-head.was ∙ ap Ok c.in-Operation.is) c.begun_at.ensures.1 in omega (arith, w.2)

pub expr_at-requires-in-Operation : goal.expr_at-requires-in-Operation
expr_at-requires-in-Operation t c = let w = operation_place _ _ _ _ _ _ _ (c.in_ok-head.was ∙ ap Ok c.in-Operation.is) c.begun_at.ensures.1 in let sx = spent_at 1 _ _ _ _ _ _ _ c.in_ok-after-in-Operation.was c.expr_at.ensures.1 in (omega (arith, c.decreases, w.0, sx.0, sx.1), (sx.1, c.requires.1, omega (arith, w.0, w.1, sx.0, sx.1, sx.2, sx.3, c.requires.2)))

pub returns-in_err-end-in-Operation : goal.returns-in_err-end-in-Operation
returns-in_err-end-in-Operation t c = let e = err_from_is_err_and c.from_residual-in_err-end-in-Operation.result c.from_residual-in_err-end-in-Operation.ensures.1 in rw (e.1, e.2) (λ x h. whole_second _ x _ c.args.left _ _ (c.begun_at.ensures.0 x) c.in-Operation.minus c.in-Operation.e c.in-Operation.m (c.in_ok-head.was ∙ ap Ok c.in-Operation.is) _ _ _ _ (c.expr_at.ensures.0 x h) _ _ _ c.in_ok-after-in-Operation.was _ c.lone_end.ensures c.in_default.is _ _ (c.expr_at-in-Operation.ensures.0 x h) _ _ c.in_err-end-in-Operation.was, spent_refused _ _ _ _ _ _ _ refl)

pub overflow_sub-d-in-Operation-3 : goal.overflow_sub-d-in-Operation-3
overflow_sub-d-in-Operation-3 t c = let w = operation_place _ _ _ _ _ _ _ (c.in_ok-head.was ∙ ap Ok c.in-Operation.is) c.begun_at.ensures.1 in omega (arith, w.2)

pub joined_at-requires : goal.joined_at-requires
joined_at-requires t c = let sy = spent_at 1 _ _ _ _ _ _ _ c.in_ok-end-in-Operation.was c.expr_at-in-Operation.ensures.1 in sy.1

pub returns-in-Number : goal.returns-in-Number
returns-in-Number t c = let w = number_place _ _ _ _ _ _ _ (c.in_ok-head.was ∙ ap Ok c.in-Number.is) c.begun_at.ensures.1 in let q = c.put_number.ensures in (λ x h. whole_number _ x _ c.args.left _ _ (c.begun_at.ensures.0 x) c.in-Number.z _ _ _ _ _ _ (c.in_ok-head.was ∙ ap Ok c.in-Number.is) (rw (to_z-of_z w64 c.in-Number.z (record { sfits = c.in-Number.known_told-in-Number-1-own.given.0.1 })) at q.1) (rw (to_z-of_z w64 c.in-Number.z (record { sfits = c.in-Number.known_told-in-Number-1-own.given.0.1 })) at q.0), spent_by _ _ _ _ _ _ w.0 w.1 (omega (arith, q.1)) (omega (arith, w.2, rw (to_z-of_z w64 c.in-Number.z (record { sfits = c.in-Number.known_told-in-Number-1-own.given.0.1 })) at q.1)))

pub returns-in-Function : goal.returns-in-Function
returns-in-Function t c = let w = function_place _ _ _ _ _ _ (c.in_ok-head.was ∙ ap Ok c.in-Function.is) c.begun_at.ensures.1 in (λ x h. whole_function _ x _ c.args.left _ _ (c.begun_at.ensures.0 x) _ _ _ _ _ _ (c.in_ok-head.was ∙ ap Ok c.in-Function.is) (c.function_at.ensures.0 x h), spent_within _ _ _ _ _ _ (omega (arith, w.0)) (omega arith) (omega (arith, w.0)) c.function_at.ensures.1)

pub returns-in_err-head : goal.returns-in_err-head
returns-in_err-head t c = let e = err_from_is_err_and c.from_residual.result c.from_residual.ensures.1 in rw (e.1, e.2) (λ x h. whole_refused _ x _ c.args.left _ _ (c.begun_at.ensures.0 x) _ _ _ _ _ c.in_err-head.was, spent_refused _ _ _ _ _ _ _ refl)

pub returns-in_ok-end-in-Operation : goal.returns-in_ok-end-in-Operation
returns-in_ok-end-in-Operation t c = let w = operation_place _ _ _ _ _ _ _ (c.in_ok-head.was ∙ ap Ok c.in-Operation.is) c.begun_at.ensures.1 in let sx = spent_at 1 _ _ _ _ _ _ _ c.in_ok-after-in-Operation.was c.expr_at.ensures.1 in let sy = spent_at 1 _ _ _ _ _ _ _ c.in_ok-end-in-Operation.was c.expr_at-in-Operation.ensures.1 in (λ x h. whole_two _ x _ c.args.left _ _ (c.begun_at.ensures.0 x) c.in-Operation.minus c.in-Operation.e c.in-Operation.m (c.in_ok-head.was ∙ ap Ok c.in-Operation.is) _ _ _ _ (c.expr_at.ensures.0 x h) _ _ _ c.in_ok-after-in-Operation.was _ c.lone_end.ensures c.in_default.is _ _ (c.expr_at-in-Operation.ensures.0 x h) _ _ _ _ _ c.in_ok-end-in-Operation.was c.joined_at.ensures.0, spent_within _ _ _ _ _ _ (omega (arith, w.0, sx.0, sy.0)) (omega (arith, sx.2, sy.2)) (omega (arith, w.0, sx.3, sy.3)) c.joined_at.ensures.1)
