use borrow.Author.Tests.{le-leb, lt-leb, le-ltb}
use Rattle.text_tokens.specs.Tokens.{is_past}
use Rattle.text_tokens.proofs.tokens.is_past.Goals as goal

pub returns-then-long-gt-LONGEST : goal.returns-then-long-gt-LONGEST
unfolding is_past
returns-then-long-gt-LONGEST c = rw (lt-leb _ _ c.if-long-gt-LONGEST.true)

pub returns-else-long-gt-LONGEST : goal.returns-else-long-gt-LONGEST
unfolding is_past
returns-else-long-gt-LONGEST c = rw (le-leb _ _ c.if-long-gt-LONGEST.false, le-ltb _ _ c.if-long-gt-LONGEST.false)
