use native.Mathlib.Omega.{arith}
use Rattle.domain_stored_meaning.specs.Decode.{when_of, condition_at}
use Rattle.domain_preparing.specs.Written.{cond_in}
use Rattle.domain_forms.proofs.Storing.{toward_start}
use Rattle.domain_preparing.proofs.Parting.{parts_spent, parts_out, parts_last, parts_counted, parts_passed}
use Rattle.domain_preparing.proofs.conditions.put_parts.Goals as goal

pub loop-left-init : goal.loop-left-init
loop-left-init c = (omega arith, omega arith, toward_start _ _ _)

pub shape_of-rows-then-code-i : goal.shape_of-rows-then-code-i
shape_of-rows-then-code-i c = c.loop-left.invariant.2.same

pub returns-then-code-i : goal.returns-then-code-i
returns-then-code-i c = (parts_out (when_of c.args.time) (condition_at c.args.code.now) (cond_in c.args.firsts.now) c.args.code.now c.loop-left.i c.loop-left.left _ _ _ _ _ c.loop-left.invariant.2 c.if-code-i.true, omega arith)

pub shape_of-rows-then-tag-eq0 : goal.shape_of-rows-then-tag-eq0
shape_of-rows-then-tag-eq0 c = c.loop-left.invariant.2.same

pub returns-then-tag-eq0 : goal.returns-then-tag-eq0
returns-then-tag-eq0 c = (parts_last (when_of c.args.time) (condition_at c.args.code.now) (cond_in c.args.firsts.now) c.args.code.now c.loop-left.i c.loop-left.left _ _ _ _ _ c.loop-left.invariant.2 c.loop-left-test.true (omega arith) c.cell-tag.ensures.0 c.if-tag-eq0.true, omega arith)

pub put_cond-c-requires : goal.put_cond-c-requires
put_cond-c-requires c = record { near = omega arith; left = omega arith }

pub loop-left-preserved-then-is_at : goal.loop-left-preserved-then-is_at
loop-left-preserved-then-is_at c = (omega arith, omega arith, parts_counted (when_of c.args.time) (condition_at c.args.code.now) (cond_in c.args.firsts.now) c.args.code.now c.loop-left.i c.loop-left.left _ _ _ _ _ c.loop-left.invariant.2 c.loop-left-test.true (omega arith) c.cell-tag.ensures.0 c.if-tag-eq0.false c.is_at.ensures c.if-is_at.true c.put_cond-c.ensures.0)

pub put_cond-p-requires : goal.put_cond-p-requires
put_cond-p-requires c = record { near = omega arith; left = omega arith }

pub loop-left-preserved : goal.loop-left-preserved
loop-left-preserved c = (omega arith, omega arith, parts_passed (when_of c.args.time) (condition_at c.args.code.now) (cond_in c.args.firsts.now) c.args.code.now c.loop-left.i c.loop-left.left _ _ _ _ _ c.loop-left.invariant.2 c.loop-left-test.true (omega arith) c.cell-tag.ensures.0 c.if-tag-eq0.false c.is_at.ensures c.if-is_at.false (omega arith) c.put_cond-p.ensures.0)

pub shape_of-rows : goal.shape_of-rows
shape_of-rows c = c.loop-left.invariant.2.same

pub returns : goal.returns
returns c = (parts_spent (when_of c.args.time) (condition_at c.args.code.now) (cond_in c.args.firsts.now) c.args.code.now c.loop-left.i c.loop-left.left _ _ _ _ _ c.loop-left.invariant.2 (omega arith), omega arith)
