use lib.ListN.{length}
use borrow.Author.Tests.{lt-ltb, le-ltb}
use Rattle.check_calls.specs.declared.Answer.TheVariants.{Done}
use Rattle.check_calls.proofs.outputs.write_refusal.Goals as goal

pub returns-then-line-lt64 : goal.returns-then-line-lt64
returns-then-line-lt64 c = rw (lt-ltb _ 64 c.if-line-lt64.true)

pub returns : goal.returns
returns c = rw (
    le-ltb (length c.args.line.now) 64 c.if-line-lt64.false
    ) (λ i. (Done (c.refusal_line.ensures.1 i), c.refusal_line.ensures.0 i))
