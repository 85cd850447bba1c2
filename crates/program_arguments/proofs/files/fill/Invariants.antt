-- `program_arguments::files::fill` is safe and ends, and answers no more than the block has. Assumes nothing.
use mathlib.Core.Path.{◌≡◌}
use Prim.Native.Nat.{◌-◌, ◌≤◌}
use lib.ListN.{length}
use Rattle.program_arguments.proofs.files.fill.Given as goal

abbrev pub invariant-loop-used : goal.invariant-loop-used
invariant-loop-used g l = (length l.block ≡ length l.initial.block) × (l.used ≤ l.end)

abbrev pub decreases-loop-used : goal.decreases-loop-used
decreases-loop-used g l = l.end - l.used
