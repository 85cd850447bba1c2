use mathlib.Core.Path.{◌≡◌}
use Prim.Native.Nat.{◌+◌}
use lib.ListN.{drop}
use Rattle.plan_bytes.specs.Ends.{line_end}
use Rattle.plan_bytes.proofs.bytes.line_end.Given as goal

abbrev pub invariant-loop-at : goal.invariant-loop-at
invariant-loop-at l = l.at + line_end (drop l.at l.part) ≡ line_end l.part
