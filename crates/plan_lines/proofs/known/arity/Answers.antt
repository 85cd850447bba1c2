use native.Mathlib.Omega.{arith}
use Rattle.plan_lines.proofs.Names.{arity_signed}
use Rattle.plan_lines.proofs.known.arity.Goals as goal

pub returns : goal.returns
returns c = (omega (arith, c.min.ensures, c.kept_in.ensures.2, arity_signed c.args.heads.now c.args.acting c.args.i), omega (arith, c.min.ensures))
