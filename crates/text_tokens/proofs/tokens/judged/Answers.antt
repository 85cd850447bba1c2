use borrow.Author.Tests.{lt-ltb, le-ltb}
use Rattle.text_tokens.specs.Tokens.{judged_of}
use Rattle.text_tokens.proofs.tokens.judged.Goals as goal

pub returns-then-end-gt256 : goal.returns-then-end-gt256
unfolding judged_of
returns-then-end-gt256 c = rw (lt-ltb _ _ c.if-end-gt256.true)

pub returns : goal.returns
unfolding judged_of
returns c = rw (le-ltb _ _ c.if-end-gt256.false)
