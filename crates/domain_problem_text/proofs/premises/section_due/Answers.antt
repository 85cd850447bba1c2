use Rattle.std.proofs.lemmas.Result.{err_from_is_err_and}
use mathlib.Core.Path.{sym, ap, ◌∙◌}
use native.Mathlib.Omega.{arith}
use Rattle.domain_due.specs.Answers.{answer_of}
use Rattle.domain_due.proofs.Dues.{ahead_done, ahead_refused, answer_done, answer_refused}
use Rattle.domain_problem_text.proofs.Naming.{ahead_further}
use Rattle.domain_problem_text.proofs.Judging.{due_unopened, due_inside}
use Rattle.domain_problem_text.proofs.premises.section_due.Goals as goal

pub returns-in_err-inside : goal.returns-in_err-inside
returns-in_err-inside c = let p = err_from_is_err_and c.from_residual.result c.from_residual.ensures.1 in rw (p.1, p.2, ← c.in_err-inside.was) ((c.in_err-inside.was ∙ sym (ap answer_of (due_unopened _ _ _ _ _ (answer_refused _ _ _ (sym c.opening.ensures.0 ∙ c.in_err-inside.was)))), ahead_refused _ _ _ _ _ c.in_err-inside.was))

pub word_due-requires : goal.word_due-requires
word_due-requires c = (ahead_done _ _ _ _ _ c.in_ok-inside.was c.opening.ensures.1).1

pub returns : goal.returns
returns c = let b = ahead_done _ _ _ _ _ c.in_ok-inside.was c.opening.ensures.1 in (c.word_due.ensures.0 ∙ sym (ap answer_of (due_inside _ _ _ _ _ (answer_done _ _ _ (sym c.opening.ensures.0 ∙ c.in_ok-inside.was)))), ahead_further _ _ _ _ (omega arith) c.word_due.ensures.1)
