use mathlib.Core.Path.{sym, ◌∙◌}
use Rattle.domain_problem_text.proofs.premises.sums_at.Goals as goal

pub returns-then-sums_fit : goal.returns-then-sums_fit
returns-then-sums_fit c = λ d h. rw (sym (c.sums_fit.ensures d h) ∙ c.if-sums_fit.true)

pub returns : goal.returns
returns c = λ d h. rw (sym (c.sums_fit.ensures d h) ∙ c.if-sums_fit.false)
