use native.Mathlib.Omega.{arith}
use Rattle.std.proofs.lemmas.Grind.{common_steps}
use Rattle.text_tokens.specs.Numbers.{scale_of}
use Rattle.text_tokens.proofs.numbers.scale.Goals as goal

pub returns-in-1 : goal.returns-in-1
unfolding scale_of
returns-in-1 c = (rw c.in-1.is, omega arith)

pub returns-in-2 : goal.returns-in-2
unfolding scale_of
returns-in-2 c = (rw c.in-2.is, omega arith)

pub returns-in_default : goal.returns-in_default
unfolding scale_of
returns-in_default c = grind (arith, common_steps)
