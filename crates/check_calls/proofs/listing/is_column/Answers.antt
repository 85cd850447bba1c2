use borrow.Author.Tests.{le-leb, lt-leb}
use Rattle.plan_meaning.specs.Listed.{listed_column}
use Rattle.check_calls.proofs.listing.is_column.Goals as goal

pub returns-then-column-ge1 : goal.returns-then-column-ge1
unfolding listed_column
returns-then-column-ge1 c = rw (le-leb 1 c.args.column c.if-column-ge1.true)

pub returns : goal.returns
unfolding listed_column
returns c = rw (lt-leb 1 c.args.column c.if-column-ge1.false)
