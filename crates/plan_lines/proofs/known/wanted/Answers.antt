use mathlib.Core.Path.{◌∙◌}
use native.Mathlib.Omega.{arith}
use Rattle.plan_lines.proofs.Names.{arity_signed, wanted_signed}
use Rattle.plan_lines.proofs.known.wanted.Goals as goal

pub overflow_add-j : goal.overflow_add-j
overflow_add-j c = omega (arith, c.requires.1, arity_signed c.args.heads.now c.args.acting c.args.i)

pub kept_in-requires : goal.kept_in-requires
kept_in-requires c = (omega (arith, c.requires.0.1), omega arith, omega (arith, c.requires.1, arity_signed c.args.heads.now c.args.acting c.args.i))

pub returns : goal.returns
returns c = c.kept_in.ensures.2 ∙ wanted_signed _ _ _ _ c.requires.1
