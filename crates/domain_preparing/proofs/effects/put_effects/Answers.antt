use native.Mathlib.Omega.{arith}
use Rattle.domain_preparing.proofs.Effecting.{effects_stored}
use Rattle.domain_preparing.proofs.effects.put_effects.Goals as goal

pub returns : goal.returns
returns c = (effects_stored _ _ _ _ c.args.rows.now _ c.put_parts-u.ensures.0 c.put.ensures, omega arith)
