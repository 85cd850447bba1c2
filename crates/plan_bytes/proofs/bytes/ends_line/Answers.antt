use native.Mathlib.Omega.{arith}
use Rattle.std.proofs.lemmas.Grind.{common_steps}
use Rattle.plan_bytes.specs.Ends.{ends_line}
use Rattle.plan_bytes.proofs.bytes.ends_line.Goals as goal

pub returns-then-end-left : goal.returns-then-end-left
unfolding ends_line
returns-then-end-left c = grind (arith, common_steps)

pub returns-else-end-left : goal.returns-else-end-left
unfolding ends_line
returns-else-end-left c = grind (arith, common_steps)
