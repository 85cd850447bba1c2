use borrow.Author.Tests.{lt-ltb, le-ltb}
use Rattle.domain_rows.specs.Held.{byte_at}
use Rattle.domain_forms.proofs.cells.place.Goals as goal

pub returns-then-i-starts : goal.returns-then-i-starts
unfolding byte_at
returns-then-i-starts c = rw (lt-ltb _ _ c.if-i-starts.true)

pub returns-else-i-starts : goal.returns-else-i-starts
unfolding byte_at
returns-else-i-starts c = rw (le-ltb _ _ c.if-i-starts.false)
