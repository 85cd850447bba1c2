use mathlib.Core.Path.{sym}
use native.Mathlib.Omega.{arith}
use lib.Seq.{set_out}
use Rattle.domain_holding.proofs.put_last.Goals as goal

pub returns-else-block-gt0 : goal.returns-else-block-gt0
returns-else-block-gt0 c = sym (set_out _ _ _ (omega arith))
