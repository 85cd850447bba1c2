use mathlib.Core.Path.{◌≡◌}
use Prim.Native.Nat.{◌-◌, ◌≤◌}
use lib.ListN.{length}
use Rattle.domain_meaning.specs.Tables.{Table}
use Rattle.domain_rows.specs.Held.{Holds}
use Rattle.domain_rows.proofs.Rows.{Filled}
use Rattle.domain_rows.proofs.fill.Given as goal

abbrev pub invariant-loop-i : goal.invariant-loop-i
invariant-loop-i l = (l.g ≤ l.i) × (l.i ≤ l.n) × (length l.rows ≡ length l.initial.rows) × ((t : Table) → Holds l.max l.initial.rows l.n t → Filled l.max l.rows l.n l.i l.g l.k t)

abbrev pub decreases-loop-i : goal.decreases-loop-i
decreases-loop-i l = l.n - l.i
