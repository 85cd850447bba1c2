use mathlib.Core.Path.{refl}
use native.Mathlib.Omega.{arith}
use Rattle.domain_preparing.proofs.Shapes.{leaf_low, leaf_value, leaf_gap, leaf_number, leaf_long}
use Rattle.domain_preparing.proofs.Expressing.{copies_zero, copies_value, copies_number}
use Rattle.domain_preparing.proofs.expressions.put_leaf.Goals as goal

pub returns-then-tag-lt5 : goal.returns-then-tag-lt5
returns-then-tag-lt5 c = (copies_zero _ _ _ c.args.rows.now _ (leaf_low c.args.code.now c.args.at c.args.tag c.if-tag-lt5.true) c.put_zero.ensures.0 c.put_zero.ensures.1, record { near = omega arith; few = omega arith })

pub returns-then-tag-lt8 : goal.returns-then-tag-lt8
returns-then-tag-lt8 c = (copies_value _ _ _ c.args.rows.now _ (leaf_value c.args.code.now c.args.at c.args.tag c.if-tag-lt5.false c.if-tag-lt8.true) c.put_form-free.ensures.0 refl, record { near = omega arith; few = omega arith })

pub returns-then-tag-lt16 : goal.returns-then-tag-lt16
returns-then-tag-lt16 c = (copies_zero _ _ _ c.args.rows.now _ (leaf_gap c.args.code.now c.args.at c.args.tag c.if-tag-lt8.false c.if-tag-lt16.true) c.put_zero-then-tag-lt16.ensures.0 c.put_zero-then-tag-lt16.ensures.1, record { near = omega arith; few = omega arith })

pub returns-then-size-lt6 : goal.returns-then-size-lt6
returns-then-size-lt6 c = (copies_number _ _ _ c.args.rows.now _ (leaf_number c.args.code.now c.args.at c.args.tag c.if-tag-lt16.false c.if-size-lt6.true) c.put_number-free.ensures.0 refl, record { near = omega arith; few = omega arith })

pub returns : goal.returns
returns c = (copies_zero _ _ _ c.args.rows.now _ (leaf_long c.args.code.now c.args.at c.args.tag c.if-tag-lt16.false c.if-size-lt6.false) c.put_zero-2.ensures.0 c.put_zero-2.ensures.1, record { near = omega arith; few = omega arith })
