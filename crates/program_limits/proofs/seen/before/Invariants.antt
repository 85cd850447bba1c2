-- `program_limits::seen::before` is safe and ends. Assumes nothing.
use Prim.Native.Nat.{◌-◌}
use Rattle.program_limits.proofs.seen.before.Given as goal

abbrev pub decreases-loop-at : goal.decreases-loop-at
decreases-loop-at l = l.place - l.at
