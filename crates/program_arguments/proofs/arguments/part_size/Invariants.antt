use mathlib.Core.Path.{◌≡◌}
use Prim.Native.Nat.{◌≤◌}
use lib.ListN.{drop}
use Rattle.program_arguments.specs.Arguments.{size_from}
use Rattle.program_arguments.proofs.arguments.part_size.Given as goal

abbrev pub invariant-loop-b : goal.invariant-loop-b
invariant-loop-b l = (size_from l.size (drop l.b-index l.w) ≡ size_from 0 l.w) × (l.size ≤ 65536)
