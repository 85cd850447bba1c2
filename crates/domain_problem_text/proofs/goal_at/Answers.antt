use Rattle.std.proofs.lemmas.Result.{err_from_is_err_and}
use mathlib.Core.Path.{sym, ◌∙◌}
use native.Mathlib.Omega.{arith}
use Rattle.text_words.specs.Bytes.{bytes}
use Rattle.domain_due.proofs.Dues.{ahead_done, answer_done, answer_refused}
use Rattle.domain_problem_text.proofs.Starting.{sums_fit_lem}
use Rattle.domain_problem_text.proofs.Aiming.{aimed_undue, aimed_judged, aimed_unfit, aimed_fits}
use Rattle.domain_problem_text.proofs.goal_at.Goals as goal

pub returns-in_err-inside : goal.returns-in_err-inside
unfolding bytes
returns-in_err-inside c = let p = err_from_is_err_and c.from_residual.result c.from_residual.ensures.1 in rw (p.1, p.2, ← c.in_err-inside.was) (λ x h. aimed_undue _ x _ _ _ _ _ _ _ (answer_refused _ _ _ (sym c.section_due.ensures.0 ∙ c.in_err-inside.was)) c.in_err-inside.was)

pub goal_to-requires : goal.goal_to-requires
goal_to-requires c = let w = ahead_done _ _ _ _ _ c.in_ok-inside.was c.section_due.ensures.1 in (omega (arith, w.0, c.requires.0), w.1, c.requires.2)

pub returns-then-judged : goal.returns-then-judged
unfolding bytes
returns-then-judged c = λ x h. aimed_judged _ x _ _ _ _ _ _ _ (answer_done _ _ _ (sym c.section_due.ensures.0 ∙ c.in_ok-inside.was)) c.if-judged.true (c.goal_to.ensures x h)

pub returns-in_err-sums_at : goal.returns-in_err-sums_at
unfolding bytes
returns-in_err-sums_at c = let p = err_from_is_err_and c.from_residual-in_err-sums_at.result c.from_residual-in_err-sums_at.ensures.1 in rw (p.1, p.2, ← c.in_err-sums_at.was) (λ x h. aimed_unfit _ x _ _ _ _ _ _ _ (answer_done _ _ _ (sym c.section_due.ensures.0 ∙ c.in_ok-inside.was)) _ _ c.if-judged.false (c.sums_at.ensures x h) c.in_err-sums_at.was)

pub goal_to-requires-2 : goal.goal_to-requires-2
goal_to-requires-2 c = let w = ahead_done _ _ _ _ _ c.in_ok-inside.was c.section_due.ensures.1 in (omega (arith, w.0, c.requires.0), w.1, c.requires.2)

pub returns : goal.returns
unfolding bytes
returns c = λ x h. aimed_fits _ x _ _ _ _ _ _ _ (answer_done _ _ _ (sym c.section_due.ensures.0 ∙ c.in_ok-inside.was)) c.if-judged.false (sums_fit_lem x _ _ _ _ _ (c.sums_at.ensures x h) c.in_ok-sums_at.was) (c.goal_to-2.ensures x h)
