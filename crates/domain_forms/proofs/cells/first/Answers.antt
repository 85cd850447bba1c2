use native.Mathlib.Omega.{arith}
use Rattle.domain_forms.proofs.Reading.{function_there, function_past, predicate_there, predicate_past}
use Rattle.domain_forms.proofs.cells.first.Goals as goal

pub returns-then-head-lt16 : goal.returns-then-head-lt16
returns-then-head-lt16 c = (function_there c.args.firsts.now c.args.head c.args.numeric c.if-numeric.true c.if-head-lt16.true c.entry.ensures.0, c.entry.ensures.1)

pub returns-then-numeric : goal.returns-then-numeric
returns-then-numeric c = (function_past c.args.firsts.now c.args.head c.args.numeric c.if-numeric.true c.if-head-lt16.false, omega arith)

pub returns-then-head-lt32 : goal.returns-then-head-lt32
returns-then-head-lt32 c = (predicate_there c.args.firsts.now c.args.head c.args.numeric c.if-numeric.false c.if-head-lt32.true c.entry-then-head-lt32.ensures.0, c.entry-then-head-lt32.ensures.1)

pub returns : goal.returns
returns c = (predicate_past c.args.firsts.now c.args.head c.args.numeric c.if-numeric.false c.if-head-lt32.false, omega arith)
