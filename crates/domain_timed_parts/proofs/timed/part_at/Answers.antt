use Rattle.std.specs.Prelude.{Err}
use Rattle.std.proofs.lemmas.Result.{err_from_is_err_and}
use borrow.Enum.Refused.{opened}
use mathlib.Core.Path.{refl, sym, ap, ◌∙◌}
use native.Mathlib.Omega.{arith}
use Rattle.domain_due.proofs.Dues.{answer_done, answer_refused, ahead_done, word_in}
use Rattle.domain_expressions.proofs.Ends.{spent_refused}
use Rattle.domain_meaning.specs.Due.{opening}
use Rattle.domain_timed_parts.specs.Bodies.{body_of}
use Rattle.domain_timed_parts.proofs.Opening.{opened_deep}
use Rattle.domain_timed_parts.proofs.Headed.{part_unopened, part_else, part_headed, spent_back}
use Rattle.domain_timed_parts.proofs.timed.part_at.Goals as goal

pub returns-in_err-inside : goal.returns-in_err-inside
returns-in_err-inside c = let p = err_from_is_err_and c.from_residual.result c.from_residual.ensures.1 in rw (p.1, p.2) ((λ x h. part_unopened _ _ (body_of _ _ x) _ c.args.left _ _ _ _ _ _ (answer_refused (opening _ _ _) _ _ (sym c.opening.ensures.0 ∙ c.in_err-inside.was)) refl, spent_refused _ _ _ _ _ _ _ refl))

pub overflow_sub-d : goal.overflow_sub-d
overflow_sub-d c = let deep = opened_deep _ _ _ _ _ (answer_done (opening _ _ _) _ _ (sym c.opening.ensures.0 ∙ c.in_ok-inside.was)) in omega arith

pub returns-in_default : goal.returns-in_default
returns-in_default c = (λ x h. part_else _ _ (body_of _ _ x) _ c.args.left _ _ _ _ _ (answer_done (opening _ _ _) _ _ (sym c.opening.ensures.0 ∙ c.in_ok-inside.was)) _ c.token_at-t.ensures (opened c.in_default.in_default-own.keys2) _ (ap Err c.not_due.ensures), spent_refused _ _ _ _ _ _ _ (ap Err c.not_due.ensures))

pub overflow_sub-d-2 : goal.overflow_sub-d-2
overflow_sub-d-2 c = let deep = opened_deep _ _ _ _ _ (answer_done (opening _ _ _) _ _ (sym c.opening.ensures.0 ∙ c.in_ok-inside.was)) in omega arith

pub part_behind-requires : goal.part_behind-requires
part_behind-requires c = let q = ahead_done _ _ _ _ _ c.in_ok-inside.was c.opening.ensures.1 in let w = word_in _ _ q.1 _ _ _ (sym c.token_at-t.ensures ∙ c.in-Word.is) in (w.2, c.requires.1, omega (arith, q.0, w.0, w.1, c.requires.2))

pub returns : goal.returns
returns c = let q = ahead_done _ _ _ _ _ c.in_ok-inside.was c.opening.ensures.1 in let w = word_in _ _ q.1 _ _ _ (sym c.token_at-t.ensures ∙ c.in-Word.is) in (λ x h. part_headed _ _ (body_of _ _ x) _ c.args.left _ _ _ _ _ (answer_done (opening _ _ _) _ _ (sym c.opening.ensures.0 ∙ c.in_ok-inside.was)) _ _ _ (sym c.token_at-t.ensures ∙ c.in-Word.is) _ _ (c.part_behind.ensures.0 x h), spent_back _ _ _ _ _ (omega (arith, q.0, w.0, w.1)) c.part_behind.ensures.1)
