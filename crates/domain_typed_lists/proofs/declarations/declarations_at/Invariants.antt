use mathlib.Core.Path.{◌≡◌}
use Prim.Native.Nat.{◌-◌, ◌≤◌}
use lib.ListN.{length}
use Rattle.domain_meaning.specs.Tables.{Table}
use Rattle.domain_rows.specs.Held.{Holds}
use Rattle.domain_typed_lists.proofs.Declaring.{Declaring}
use Rattle.domain_typed_lists.proofs.declarations.declarations_at.Given as goal

abbrev pub invariant-loop-next : goal.invariant-loop-next
invariant-loop-next l = (l.from ≤ l.at) × (l.at ≤ length l.text) × (length l.rows ≡ length l.initial.rows) × ((ts t : Table) → Holds 17 l.types l.tn ts → Holds l.max l.initial.rows l.count t → Declaring l.text ts l.max l.most t l.from l.rows l.n l.at)

abbrev pub decreases-loop-next : goal.decreases-loop-next
decreases-loop-next l = length l.text - l.at
