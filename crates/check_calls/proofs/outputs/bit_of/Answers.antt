use borrow.Author.Tests.{eq-eqb, ne_eqb}
use Rattle.check_calls.proofs.outputs.bit_of.Goals as goal

pub returns-then-b-eq1 : goal.returns-then-b-eq1
returns-then-b-eq1 c = rw (eq-eqb _ 1 c.if-b-eq1.true)

pub returns : goal.returns
returns c = rw (ne_eqb _ 1 c.if-b-eq1.false)
