use native.Mathlib.Omega.{arith}
use Rattle.happening_expressions.proofs.Numerals.{read_none, read_step, read_small, read_all}
use Rattle.happening_expressions.proofs.literals.little_at.Goals as goal

pub loop-i-init : goal.loop-i-init
loop-i-init c = read_none c.args.rows.now c.args.at c.args.k

pub overflow_mul-acc : goal.overflow_mul-acc
overflow_mul-acc c = omega (arith, read_small c.args.rows.now c.args.at c.args.k c.loop-i.acc c.loop-i.i c.requires.1 c.loop-i.invariant)

pub overflow_add-acc : goal.overflow_add-acc
overflow_add-acc c = omega (arith, read_small c.args.rows.now c.args.at c.args.k c.loop-i.acc c.loop-i.i c.requires.1 c.loop-i.invariant)

pub loop-i-preserved : goal.loop-i-preserved
loop-i-preserved c = read_step c.args.rows.now c.args.at c.args.k c.loop-i.acc c.loop-i.i c.loop-i-test.true c.cell.ensures.1 c.cell.ensures.0 c.loop-i.invariant

pub returns : goal.returns
returns c = (read_all c.args.rows.now c.args.at c.args.k c.loop-i.acc c.loop-i.i (omega arith) c.loop-i.invariant, read_small c.args.rows.now c.args.at c.args.k c.loop-i.acc c.loop-i.i c.requires.1 c.loop-i.invariant)
