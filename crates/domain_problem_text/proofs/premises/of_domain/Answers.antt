use Rattle.std.proofs.lemmas.Result.{err_from_is_err_and}
use mathlib.Core.Path.{refl, sym, ap, ◌∙◌}
use native.Mathlib.Omega.{arith}
use Rattle.text_words.specs.Bytes.{bytes}
use Rattle.domain_due.specs.Answers.{answer_of}
use Rattle.domain_due.proofs.Dues.{ahead_done, ahead_refused, answer_refused, any_named, name_refused}
use Rattle.domain_problem_text.proofs.Naming.{of_undue, of_unnamed, of_other, of_same, ahead_further, read_by, same_as}
use Rattle.domain_problem_text.proofs.premises.of_domain.Goals as goal

pub returns-in_err-inside : goal.returns-in_err-inside
unfolding bytes
returns-in_err-inside c = let p = err_from_is_err_and c.from_residual.result c.from_residual.ensures.1 in rw (p.1, p.2, ← c.in_err-inside.was) ((λ d e. c.in_err-inside.was ∙ sym (ap answer_of (of_undue _ d _ _ _ (answer_refused _ _ _ (sym c.section_due.ensures.0 ∙ c.in_err-inside.was)))), ahead_refused _ _ _ _ _ c.in_err-inside.was))

pub any_name-requires : goal.any_name-requires
any_name-requires c = let a = ahead_done _ _ _ _ _ c.in_ok-inside.was c.section_due.ensures.1 in a.1

pub returns-in_err-e : goal.returns-in_err-e
unfolding bytes
returns-in_err-e c = let p = err_from_is_err_and c.from_residual-in_err-e.result c.from_residual-in_err-e.ensures.1 in rw (p.1, p.2, ← c.in_err-e.was) ((λ d e. c.in_err-e.was ∙ sym (ap answer_of (of_unnamed _ d _ _ _ (read_by _ _ _ _ c.section_due.ensures.0 c.in_ok-inside.was) _ _ (name_refused _ _ _ (sym c.any_name.ensures.0 ∙ c.in_err-e.was)))), ahead_refused _ _ _ _ _ c.in_err-e.was))

pub closing-requires : goal.closing-requires
closing-requires c = let a = ahead_done _ _ _ _ _ c.in_ok-inside.was c.section_due.ensures.1 in let b = ahead_done _ _ _ _ _ c.in_ok-e.was c.any_name.ensures.1 in b.1

pub returns-then-same_word : goal.returns-then-same_word
unfolding bytes
returns-then-same_word c = let a = ahead_done _ _ _ _ _ c.in_ok-inside.was c.section_due.ensures.1 in let b = ahead_done _ _ _ _ _ c.in_ok-e.was c.any_name.ensures.1 in (λ d e. c.closing.ensures.0 ∙ sym (ap answer_of (of_same _ d _ _ _ (read_by _ _ _ _ c.section_due.ensures.0 c.in_ok-inside.was) _ _ (any_named _ _ _ _ _ (sym c.any_name.ensures.0 ∙ c.in_ok-e.was)).is (same_as _ _ _ _ _ _ c.same_word.ensures c.part_of.ensures e c.if-same_word.true))), ahead_further _ _ _ _ (omega arith) c.closing.ensures.1)

pub returns : goal.returns
unfolding bytes
returns c = (λ d e. sym (ap answer_of (of_other _ d _ _ _ (read_by _ _ _ _ c.section_due.ensures.0 c.in_ok-inside.was) _ _ (any_named _ _ _ _ _ (sym c.any_name.ensures.0 ∙ c.in_ok-e.was)).is (same_as _ _ _ _ _ _ c.same_word.ensures c.part_of.ensures e c.if-same_word.false))), ahead_refused _ _ _ _ _ refl)
