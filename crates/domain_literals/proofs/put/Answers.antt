use mathlib.Core.Path.{sym}
use lib.Seq.{set_out}
use Rattle.domain_literals.proofs.put.Goals as goal

pub returns-else-at-code : goal.returns-else-at-code
returns-else-at-code c = sym (set_out _ _ _ c.if-at-code.false)
