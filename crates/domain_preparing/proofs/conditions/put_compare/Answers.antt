use native.Mathlib.Omega.{arith}
use Rattle.domain_forms.proofs.Storing.{stored_first, stored_then}
use Rattle.domain_preparing.proofs.conditions.put_compare.Goals as goal

pub returns : goal.returns
returns c = (rw c.put_expr-a.ensures.0.ends at (stored_first c.args.rows.now _ _ c.put.ensures (stored_then _ _ _ c.put_expr-a.ensures.0.stored c.put_expr.ensures.0.stored)), rw c.put_expr-a.ensures.0.ends at c.put_expr.ensures.0.ends, record { near = omega arith; few = omega arith })
