use native.Mathlib.Omega.{arith}
use Rattle.domain_preparing.proofs.Shapes.{expr_none, expr_past, expr_leaf}
use Rattle.domain_preparing.proofs.Expressing.{copies_zero, copies_as, copies_minus, copies_two}
use Rattle.domain_preparing.proofs.expressions.+put_expr.Goals as goal

pub returns-then-depth-eq0 : goal.returns-then-depth-eq0
returns-then-depth-eq0 t c = (copies_zero _ _ _ c.args.rows.now _ (expr_none c.args.code.now c.args.at c.args.depth c.if-depth-eq0.true) c.put_zero.ensures.0 c.put_zero.ensures.1, record { near = omega arith; few = omega arith })

pub returns-then-code-at : goal.returns-then-code-at
returns-then-code-at t c = (copies_zero _ _ _ c.args.rows.now _ (expr_past c.args.code.now c.args.at c.args.depth c.if-code-at.true) c.put_zero-then-code-at.ensures.0 c.put_zero-then-code-at.ensures.1, record { near = omega arith; few = omega arith })

pub put_leaf-requires : goal.put_leaf-requires
put_leaf-requires t c = (omega arith, record { near = omega arith; left = omega arith })

pub returns-then-tag-gt2 : goal.returns-then-tag-gt2
returns-then-tag-gt2 t c = (copies_as (expr_leaf c.args.code.now c.args.at c.args.depth c.if-depth-eq0.false (omega arith) c.cell-tag.ensures.0 c.if-tag-gt2.true) c.put_leaf.ensures.0, c.put_leaf.ensures.1)

pub put_expr-a-requires : goal.put_expr-a-requires
put_expr-a-requires t c = (omega arith, record { near = omega arith; left = omega arith })

pub returns-then-tag-eq0 : goal.returns-then-tag-eq0
returns-then-tag-eq0 t c = (copies_minus _ _ _ c.args.code.now c.args.at c.args.depth c.if-depth-eq0.false (omega arith) c.cell-tag.ensures.0 c.args.rows.now _ c.put.ensures c.put_expr-a.ensures.0 c.if-tag-eq0.true, record { near = omega arith; few = omega arith })

pub put_expr-requires : goal.put_expr-requires
put_expr-requires t c = (omega arith, record { near = omega arith; left = omega arith })

pub returns : goal.returns
returns t c = (copies_two _ _ _ c.args.code.now c.args.at c.args.depth c.if-depth-eq0.false (omega arith) c.cell-tag.ensures.0 c.args.rows.now _ c.put.ensures c.put_expr-a.ensures.0 c.if-tag-eq0.false c.if-tag-gt2.false c.put_expr.ensures.0, record { near = omega arith; few = omega arith })
