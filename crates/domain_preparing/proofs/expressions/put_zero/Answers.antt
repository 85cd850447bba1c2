use mathlib.Core.Path.{refl}
use Rattle.domain_preparing.proofs.Expressing.{zero_stored}
use Rattle.domain_preparing.proofs.expressions.put_zero.Goals as goal

pub returns : goal.returns
returns c = (zero_stored c.args.rows.now _ c.put.ensures, refl, refl)
