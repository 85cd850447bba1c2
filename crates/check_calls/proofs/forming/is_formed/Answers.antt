use mathlib.Core.Path.{sym, ◌∙◌}
use borrow.Author.Tests.{le-leb, lt-leb}
use Rattle.check_calls.specs.Calls.{formed}
use Rattle.check_calls.proofs.forming.is_formed.Goals as goal

pub returns-then-queue-le64 : goal.returns-then-queue-le64
unfolding formed
returns-then-queue-le64 c = rw (
  sym c.counters_fit.ensures ∙ c.if-counters_fit.true,
  sym c.answers_fit.ensures ∙ c.if-answers_fit.true,
  sym c.sizes_fit.ensures ∙ c.if-sizes_fit.true,
  le-leb c.args.queue.count 64 c.if-queue-le64.true,
) c.slots_fit.ensures

pub returns-else-queue-le64 : goal.returns-else-queue-le64
unfolding formed
returns-else-queue-le64 c = rw (
  sym c.counters_fit.ensures ∙ c.if-counters_fit.true,
  sym c.answers_fit.ensures ∙ c.if-answers_fit.true,
  sym c.sizes_fit.ensures ∙ c.if-sizes_fit.true,
  lt-leb c.args.queue.count 64 c.if-queue-le64.false,
)

pub returns-else-sizes_fit : goal.returns-else-sizes_fit
unfolding formed
returns-else-sizes_fit c = rw (
  sym c.counters_fit.ensures ∙ c.if-counters_fit.true,
  sym c.answers_fit.ensures ∙ c.if-answers_fit.true,
  sym c.sizes_fit.ensures ∙ c.if-sizes_fit.false,
)

pub returns-else-answers_fit : goal.returns-else-answers_fit
unfolding formed
returns-else-answers_fit c = rw (
  sym c.counters_fit.ensures ∙ c.if-counters_fit.true,
  sym c.answers_fit.ensures ∙ c.if-answers_fit.false,
)

pub returns-else-counters_fit : goal.returns-else-counters_fit
unfolding formed
returns-else-counters_fit c = rw (sym c.counters_fit.ensures ∙ c.if-counters_fit.false)
