use native.Mathlib.Omega.{arith}
use Rattle.domain_forms.proofs.Folding.{folded_0, folded_1, folded_2, folded_3}
use Rattle.domain_forms.proofs.forms.folded_at.Goals as goal

pub returns-then-k-eq0 : goal.returns-then-k-eq0
returns-then-k-eq0 c = (folded_0 c.args.code.now c.args.n c.args.at c.args.k c.if-k-eq0.true, omega arith)

pub returns-then-k-eq1 : goal.returns-then-k-eq1
returns-then-k-eq1 c = (folded_1 c.args.code.now c.args.n c.args.at c.args.k c.cell.ensures.0 c.fixed.ensures.0 c.shift-x.ensures.0 c.if-k-eq1.true, omega arith)

pub returns-then-k-eq2 : goal.returns-then-k-eq2
returns-then-k-eq2 c = (folded_2 c.args.code.now c.args.n c.args.at c.args.k c.cell.ensures.0 c.fixed.ensures.0 c.shift-x.ensures.0 c.cell-2.ensures.0 c.fixed-2.ensures.0 c.shift-y.ensures.0 c.if-k-eq2.true, omega arith)

pub returns : goal.returns
returns c = (folded_3 c.args.code.now c.args.n c.args.at c.args.k c.cell.ensures.0 c.fixed.ensures.0 c.shift-x.ensures.0 c.cell-2.ensures.0 c.fixed-2.ensures.0 c.shift-y.ensures.0 c.cell-3.ensures.0 c.fixed-3.ensures.0 c.shift.ensures.0 (omega arith), omega arith)
