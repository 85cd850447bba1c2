use Rattle.std.proofs.lemmas.Result.{err_from_is_err_and}
use mathlib.Core.Path.{sym, ◌∙◌}
use native.Mathlib.Omega.{arith}
use Rattle.domain_expressions.proofs.Operands.{spent_at}
use Rattle.domain_timed_parts.proofs.Timing.{farther_at}
use Rattle.domain_timed_parts.proofs.Fielded.{field_none, field_refused, field_done, onwards_by, onwards_refused}
use Rattle.domain_timed_parts.proofs.fields.field_parts.Goals as goal

pub returns-in_default : goal.returns-in_default
returns-in_default c = (λ x h. field_none _ x _ c.args.left _ _ _ _ _ _ (sym c.in_default.is ∙ c.field_at-f.ensures.0) c.put.ensures, onwards_by _ _ _ _ _ (omega arith) c.requires.0 (omega arith) (omega arith))

pub held_at-requires : goal.held_at-requires
held_at-requires c = let q = farther_at _ _ _ _ c.in-Some.is c.field_at-f.ensures.1 in (q.1, c.requires.1, omega (arith, q.0, q.1, c.requires.2))

pub overflow_add-result-2 : goal.overflow_add-result-2
overflow_add-result-2 c = let q = farther_at _ _ _ _ c.in-Some.is c.field_at-f.ensures.1 in let w = spent_at 2 _ _ _ _ _ _ _ c.in_ok-after.was c.held_at.ensures.1 in omega (arith, q.0, w.0, w.1, w.3, c.requires.2)

pub returns : goal.returns
returns c = let q = farther_at _ _ _ _ c.in-Some.is c.field_at-f.ensures.1 in let w = spent_at 2 _ _ _ _ _ _ _ c.in_ok-after.was c.held_at.ensures.1 in (λ x h. field_done _ x _ c.args.left _ _ _ _ _ _ (sym c.in-Some.is ∙ c.field_at-f.ensures.0) _ _ (c.held_at.ensures.0 x h) _ _ _ _ c.in_ok-after.was c.put-2.ensures, onwards_by _ _ _ _ _ (omega (arith, q.0, w.0)) w.1 (omega (arith, w.2)) (omega (arith, q.0, w.3)))

pub returns-in_err-after : goal.returns-in_err-after
returns-in_err-after c = let e = err_from_is_err_and c.from_residual.result c.from_residual.ensures.1 in rw (e.1, e.2) (λ x h. field_refused _ x _ c.args.left _ _ _ _ _ _ (sym c.in-Some.is ∙ c.field_at-f.ensures.0) _ _ (c.held_at.ensures.0 x h) _ _ c.in_err-after.was, onwards_refused _ _ _ _ _)
