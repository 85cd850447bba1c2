use mathlib.Core.Path.{refl}
use Rattle.plan_running.proofs.Poising.{poised_none}
use Rattle.plan_running.proofs.Workspace.new.Goals as goal

pub returns : goal.returns
returns c = (c.lend.ensures.1, refl, λ rows facts numbers fresh same. poised_none rows _ _ _ facts numbers fresh c.lend.ensures.0 same)
