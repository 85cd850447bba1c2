use mathlib.Core.Path.{◌≡◌}
use Prim.Native.Nat.{◌+◌}
use Rattle.program_naming.specs.Grounds.{first_in}
use Rattle.program_naming.proofs.grounds.Heads.ground_of.Given as goal

abbrev pub invariant-loop-head : goal.invariant-loop-head
invariant-loop-head l = first_in l.self.tables.now l.self.off l.self.objects l.head + l.rest ≡ l.i
