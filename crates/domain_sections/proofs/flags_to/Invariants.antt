use Prim.Native.Nat.{◌-◌, ◌≤◌}
use lib.ListN.{length}
use Rattle.domain_sections.proofs.Frames.{Going}
use Rattle.domain_sections.proofs.flags_to.Given as goal

abbrev pub invariant-loop-p : goal.invariant-loop-p
invariant-loop-p l = (l.from ≤ l.at) × (l.at ≤ length l.text) × Going l.text l.from l.at

abbrev pub decreases-loop-p : goal.decreases-loop-p
decreases-loop-p l = length l.text - l.at
