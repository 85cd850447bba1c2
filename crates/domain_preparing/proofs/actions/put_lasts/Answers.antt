use native.Mathlib.Omega.{arith}
use Rattle.domain_preparing.proofs.Acting.{lasts_out, lasts_none, lasts_rule}
use Rattle.domain_preparing.proofs.actions.put_lasts.Goals as goal

pub returns-then-code-at : goal.returns-then-code-at
returns-then-code-at c = (lasts_out _ _ _ c.args.code.now c.args.at c.args.rows.now _ c.if-code-at.true c.put.ensures, omega arith)

pub returns-then-cell-eq0 : goal.returns-then-cell-eq0
returns-then-cell-eq0 c = (lasts_none _ _ _ c.args.code.now c.args.at c.args.rows.now _ (omega arith) c.cell.ensures.0 c.if-cell-eq0.true c.put-then-cell-eq0.ensures, omega arith)

pub returns : goal.returns
returns c = (lasts_rule _ _ _ c.args.code.now c.args.at c.args.rows.now _ (omega arith) c.cell.ensures.0 c.if-cell-eq0.false c.put-2.ensures c.put_expr-e.ensures.0.stored, omega arith)
