use borrow.Author.Tests.{lt-ltb, le-ltb}
use Rattle.text_tokens.specs.Tokens.{strange_of}
use Rattle.text_tokens.proofs.tokens.strange.Goals as goal

pub returns-then-long-gt33 : goal.returns-then-long-gt33
unfolding strange_of
returns-then-long-gt33 c = rw (lt-ltb _ _ c.if-long-gt33.true)

pub returns : goal.returns
unfolding strange_of
returns c = rw (le-ltb _ _ c.if-long-gt33.false)
