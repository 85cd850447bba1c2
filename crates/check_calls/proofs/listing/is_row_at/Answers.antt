use borrow.Author.Tests.{ne_eqb}
use Rattle.plan_meaning.specs.Listed.{listed_row}
use Rattle.check_calls.proofs.listing.is_row_at.Goals as goal

pub returns-then-k-eq14 : goal.returns-then-k-eq14
unfolding listed_row
returns-then-k-eq14 c = rw c.if-k-eq14.true

pub returns : goal.returns
unfolding listed_row
returns c = rw (ne_eqb _ 14 c.if-k-eq14.false) c.is_row.ensures
