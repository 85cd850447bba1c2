use mathlib.Core.Path.{refl}
use Rattle.domain_preparing.proofs.Testing.{same_stored}
use Rattle.domain_preparing.proofs.conditions.put_same.Goals as goal

pub returns : goal.returns
returns c = (same_stored c.args.rows.now _ _ _ _ c.cell.ensures.0 c.cell-2.ensures.0 c.put.ensures c.put-2.ensures c.put-3.ensures, refl, refl)
