use native.Mathlib.Omega.{arith}
use Rattle.domain_forms.proofs.Storing.{stored_then}
use Rattle.domain_preparing.proofs.effects.put_change.Goals as goal

pub returns : goal.returns
returns c = (stored_then c.args.rows.now _ _ c.put_form-u.ensures.0 c.put_expr.ensures.0.stored, c.put_expr.ensures.0.ends, record { near = omega arith; few = omega arith })
