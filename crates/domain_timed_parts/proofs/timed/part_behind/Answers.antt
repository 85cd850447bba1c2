use Rattle.std.proofs.lemmas.Result.{err_from_is_err_and}
use mathlib.Core.Path.{refl, sym, ap, ◌∙◌}
use native.Mathlib.Omega.{arith}
use Rattle.domain_due.proofs.Dues.{answer_done, answer_refused, ahead_done}
use Rattle.domain_expressions.proofs.Passed.{passed}
use Rattle.domain_expressions.proofs.Ends.{spent_refused}
use Rattle.domain_expressions.proofs.Operands.{spent_at}
use Rattle.domain_meaning.specs.Due.{closing}
use Rattle.domain_meaning.specs.Actions.{time_of}
use Rattle.domain_timed_parts.specs.Bodies.{body_of}
use Rattle.domain_timed_parts.proofs.Bodied.{spent_by}
use Rattle.domain_timed_parts.proofs.Parted.{when_done_lem, when_small, behind_untimed, behind_refused, behind_unclosed, behind_done}
use Rattle.domain_timed_parts.proofs.timed.part_behind.Goals as goal

pub returns-in_err-at : goal.returns-in_err-at
returns-in_err-at c = let p = err_from_is_err_and c.from_residual.result c.from_residual.ensures.1 in rw (p.1, p.2) ((λ x h. behind_untimed _ _ (body_of _ _ x) _ c.args.left _ _ _ _ _ _ _ _ c.time_of.ensures.0 c.in_err-at.was (sym (ap (passed c.args.left) c.in_err-at.was)), spent_refused _ _ _ _ _ _ _ refl))

pub put-requires : goal.put-requires
put-requires c = let t = (when_done_lem (time_of _ _ _ _ _ _) _ _ (sym c.time_of.ensures.0 ∙ c.in_ok-at.was)) in omega (arith, t.cell, when_small t.when)

pub body_at-requires : goal.body_at-requires
body_at-requires c = let q = ahead_done _ _ _ _ _ c.in_ok-at.was c.time_of.ensures.1 in (q.1, c.requires.1, omega (arith, q.0, q.1, c.requires.2))

pub returns-in_err-after : goal.returns-in_err-after
returns-in_err-after c = let p = err_from_is_err_and c.from_residual-in_err-after.result c.from_residual-in_err-after.ensures.1 in rw (p.1, p.2, ← c.in_err-after.was) ((λ x h. behind_refused _ _ (body_of _ _ x) _ c.args.left _ _ _ _ _ _ (when_done_lem (time_of _ _ _ _ _ _) _ _ (sym c.time_of.ensures.0 ∙ c.in_ok-at.was)) _ _ _ (c.body_at.ensures.0 x h) _ _ c.in_err-after.was, spent_refused _ _ _ _ _ _ _ c.in_err-after.was))

pub closing-requires : goal.closing-requires
closing-requires c = let w = spent_at 1 _ _ _ _ _ _ _ c.in_ok-after.was c.body_at.ensures.1 in w.1

pub returns-in_err-end : goal.returns-in_err-end
returns-in_err-end c = let p = err_from_is_err_and c.from_residual-in_err-end.result c.from_residual-in_err-end.ensures.1 in rw (p.1, p.2) ((λ x h. behind_unclosed _ _ (body_of _ _ x) _ c.args.left _ _ _ _ _ _ (when_done_lem (time_of _ _ _ _ _ _) _ _ (sym c.time_of.ensures.0 ∙ c.in_ok-at.was)) _ _ _ (c.body_at.ensures.0 x h) _ _ _ c.in_ok-after.was _ _ _ (answer_refused (closing _ _ _) _ _ (sym c.closing.ensures.0 ∙ c.in_err-end.was)) refl, spent_refused _ _ _ _ _ _ _ refl))

pub returns : goal.returns
returns c = let q = ahead_done _ _ _ _ _ c.in_ok-at.was c.time_of.ensures.1 in let w = spent_at 1 _ _ _ _ _ _ _ c.in_ok-after.was c.body_at.ensures.1 in let z = ahead_done _ _ _ _ _ c.in_ok-end.was c.closing.ensures.1 in (λ x h. behind_done _ _ (body_of _ _ x) _ c.args.left _ _ _ _ _ _ (when_done_lem (time_of _ _ _ _ _ _) _ _ (sym c.time_of.ensures.0 ∙ c.in_ok-at.was)) _ _ _ (c.body_at.ensures.0 x h) _ _ _ c.in_ok-after.was _ _ (answer_done (closing _ _ _) _ _ (sym c.closing.ensures.0 ∙ c.in_ok-end.was)) c.put.ensures, spent_by 0 _ _ _ _ _ _ (omega (arith, q.0, w.0, z.0)) z.1 (omega (arith, w.2)) (omega (arith, q.0, w.3, z.0)))
