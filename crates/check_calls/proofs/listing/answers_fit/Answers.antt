use mathlib.Core.Path.{sym, ◌∙◌}
use Rattle.check_meaning.specs.Listed.{listed_time}
use Rattle.check_calls.specs.Calls.{answers_fit}
use Rattle.check_calls.proofs.listing.answers_fit.Goals as goal

pub returns-then-is_verdict : goal.returns-then-is_verdict
unfolding answers_fit listed_time
returns-then-is_verdict c = rw (
  sym c.standing_fits.ensures ∙ c.if-standing_fits.true,
  sym c.is_verdict.ensures ∙ c.if-is_verdict.true,
)

pub returns-else-is_verdict : goal.returns-else-is_verdict
unfolding answers_fit
returns-else-is_verdict c = rw (
  sym c.standing_fits.ensures ∙ c.if-standing_fits.true,
  sym c.is_verdict.ensures ∙ c.if-is_verdict.false,
)

pub returns-else-standing_fits : goal.returns-else-standing_fits
unfolding answers_fit
returns-else-standing_fits c = rw (sym c.standing_fits.ensures ∙ c.if-standing_fits.false)
