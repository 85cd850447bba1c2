use native.Mathlib.Omega.{arith}
use Rattle.text_tokens.proofs.Figures.{word_malformed, word_longer, word_number}
use Rattle.text_tokens.proofs.numbers.number_from.Goals as goal

pub returns-in_err-m : goal.returns-in_err-m
returns-in_err-m c = rw c.from_residual.ensures (word_malformed c.args.w.now 59 c.args.from (omega arith) c.figure_at.result c.figure_at.ensures c.in_err-m.was)

pub returns-then-end-w : goal.returns-then-end-w
returns-then-end-w c = word_longer c.args.w.now 59 c.args.from (omega arith) c.figure_at.result c.figure_at.ensures c.in_ok-m.m c.in_ok-m.end c.in_ok-m.was c.if-end-w.true

pub returns : goal.returns
returns c = word_number c.args.w.now 59 c.args.from (omega arith) c.figure_at.result c.figure_at.ensures c.in_ok-m.m c.in_ok-m.end c.in_ok-m.was c.if-end-w.false
