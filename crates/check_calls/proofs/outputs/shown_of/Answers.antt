use mir.Syntax.{w64}
use mir.ValLaws.{to_z-of_z}
use Rattle.check_calls.proofs.Shown.{shown_in, shown_out}
use Rattle.check_calls.proofs.outputs.shown_of.Goals as goal

pub returns-then-is_inside : goal.returns-then-is_inside
returns-then-is_inside c = shown_in c.args.z _ (cc (to_z-of_z w64 c.args.z c.ranges.z)) (to_z-of_z w64 c.args.z c.ranges.z)

pub returns : goal.returns
returns c = shown_out _ (cc (to_z-of_z w64 _ c.ranges.z))
