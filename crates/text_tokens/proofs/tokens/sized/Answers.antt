use borrow.Author.Tests.{lt-ltb, le-ltb}
use Rattle.text_tokens.specs.Tokens.{sized_of}
use Rattle.text_tokens.proofs.tokens.sized.Goals as goal

pub returns-then-most-long : goal.returns-then-most-long
unfolding sized_of
returns-then-most-long c = rw (lt-ltb _ _ c.if-most-long.true)

pub returns : goal.returns
unfolding sized_of
returns c = rw (le-ltb _ _ c.if-most-long.false)
