use mir.Syntax.{w64}
use mir.ValLaws.{to_z-of_z}
use Rattle.std.proofs.Common.{rules}
use Rattle.happening_amounts.proofs.Ranges.{ranged_mag}
use Rattle.happening_writes.proofs.numbers.change_number.Goals as goal

pub shift-requires : goal.shift-requires
shift-requires c = (ranged_mag c.args.v c.in-Number.z c.requires.0 c.in-Number.is (to_z-of_z w64 c.in-Number.z (record { sfits = search rules })), c.requires.1)

pub shift-requires-in-Lowered : goal.shift-requires-in-Lowered
shift-requires-in-Lowered c = (ranged_mag c.args.v c.in-Number.z c.requires.0 c.in-Number.is (to_z-of_z w64 c.in-Number.z (record { sfits = search rules })), c.requires.1)
