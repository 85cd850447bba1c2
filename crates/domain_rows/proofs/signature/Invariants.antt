use mathlib.Core.Path.{◌≡◌}
use mathlib.Core.List.{map}
use Prim.Native.Nat.{◌-◌, ◌+◌, ◌≤◌}
use lib.ListN.{length, drop}
use lib.Seq.{sets}
use Rattle.domain_meaning.specs.Tables.{Table, type_of}
use Rattle.domain_rows.specs.Held.{Holds}
use Rattle.domain_rows.proofs.signature.Given as goal

abbrev pub invariant-loop-i : goal.invariant-loop-i
invariant-loop-i l = (l.i ≤ l.n) × (length l.out ≡ length l.initial.out) × ((t : Table) → Holds l.max l.rows l.n t → sets l.out (l.i + 1) (drop l.i (map type_of t)) ≡ sets l.initial.out 1 (map type_of t))

abbrev pub decreases-loop-i : goal.decreases-loop-i
decreases-loop-i l = l.n - l.i
