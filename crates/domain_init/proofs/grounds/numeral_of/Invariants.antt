use mathlib.Core.Path.{◌≡◌}
use Prim.Native.Nat.{◌^◌, ◌≤◌, ◌<◌}
use lib.ListN.{take, drop}
use Rattle.domain_meaning.specs.Indexes.{digits}
use Rattle.domain_init.proofs.grounds.numeral_of.Given as goal

abbrev pub invariant-loop-i : goal.invariant-loop-i
invariant-loop-i l = (l.i ≤ l.k) × (l.acc < 256 ^ l.i) × (digits l.n l.acc (drop l.i (take l.k l.cells)) ≡ digits l.n 0 (take l.k l.cells))
