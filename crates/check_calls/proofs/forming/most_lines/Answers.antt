use borrow.Author.Tests.{ne_eqb}
use Rattle.check_calls.proofs.forming.most_lines.Goals as goal

pub returns-then-used-eq0 : goal.returns-then-used-eq0
returns-then-used-eq0 c = rw c.if-used-eq0.true

pub returns : goal.returns
returns c = rw (ne_eqb _ 0 c.if-used-eq0.false)
