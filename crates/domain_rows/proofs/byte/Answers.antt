use borrow.Author.Tests.{lt-ltb, le-ltb}
use Rattle.domain_rows.specs.Held.{byte_at}
use Rattle.domain_rows.proofs.byte.Goals as goal

pub returns-then-at-rows : goal.returns-then-at-rows
unfolding byte_at
returns-then-at-rows c = rw (lt-ltb _ _ c.if-at-rows.true)

pub returns-else-at-rows : goal.returns-else-at-rows
unfolding byte_at
returns-else-at-rows c = rw (le-ltb _ _ c.if-at-rows.false)
