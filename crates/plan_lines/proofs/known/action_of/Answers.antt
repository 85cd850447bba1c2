use mathlib.Core.Path.{◌∙◌}
use native.Mathlib.Omega.{arith}
use Rattle.plan_lines.proofs.Names.{lookup_signed}
use Rattle.plan_lines.proofs.known.action_of.Goals as goal

pub returns : goal.returns
returns c = c.find.ensures ∙ lookup_signed _ _ _ (omega (arith, c.requires))
