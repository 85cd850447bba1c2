use mathlib.Core.Path.{sym, ◌∙◌}
use borrow.Author.Tests.{ne_eqb}
use Rattle.plan_meaning.specs.Listed.{listed_in_plan}
use Rattle.check_calls.proofs.listing.is_refusal.Goals as goal

pub returns-then-line-eq1000001 : goal.returns-then-line-eq1000001
unfolding listed_in_plan
returns-then-line-eq1000001 c = rw (c.if-k-eq15.true, c.if-line-eq1000001.true)

pub returns-then-k-eq15 : goal.returns-then-k-eq15
unfolding listed_in_plan
returns-then-k-eq15 c = rw (c.if-k-eq15.true, ne_eqb _ 1000001 c.if-line-eq1000001.false)

pub returns-then-is_column : goal.returns-then-is_column
unfolding listed_in_plan
returns-then-is_column c = rw (
  ne_eqb c.args.k 15 c.if-k-eq15.false,
  sym c.is_line.ensures ∙ c.if-is_line.true,
  sym c.is_column.ensures ∙ c.if-is_column.true,
) c.is_row_at.ensures

pub returns-else-is_column : goal.returns-else-is_column
unfolding listed_in_plan
returns-else-is_column c = rw (
  ne_eqb c.args.k 15 c.if-k-eq15.false,
  sym c.is_line.ensures ∙ c.if-is_line.true,
  sym c.is_column.ensures ∙ c.if-is_column.false,
)

pub returns-else-is_line : goal.returns-else-is_line
unfolding listed_in_plan
returns-else-is_line c = rw (
  ne_eqb c.args.k 15 c.if-k-eq15.false,
  sym c.is_line.ensures ∙ c.if-is_line.false,
)
