use mir.Syntax.{w64}
use mir.ValLaws.{to_z-of_z}
use Rattle.happening_writes.proofs.Changed.{shift_small}
use Rattle.happening_writes.proofs.numbers.shift.Goals as goal

pub sum-requires : goal.sum-requires
sum-requires c = (shift_small c.args.old.now c.args.fresh.now c.args.x c.given-v.ensures c.in-Number.is c.number-so.ensures (to_z-of_z w64 c.number-so.result (record { sfits = c.number-so.type_inv })) c.requires.1, rw (to_z-of_z w64 c.args.z c.ranges.z) c.requires.0)

pub difference-requires : goal.difference-requires
difference-requires c = (shift_small c.args.old.now c.args.fresh.now c.args.x c.given-v.ensures c.in-Number.is c.number-so.ensures (to_z-of_z w64 c.number-so.result (record { sfits = c.number-so.type_inv })) c.requires.1, rw (to_z-of_z w64 c.args.z c.ranges.z) c.requires.0)
