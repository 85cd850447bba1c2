use mathlib.Core.Path.{◌≡◌}
use Prim.Native.Nat.{◌-◌, ◌≤◌}
use lib.ListN.{length}
use Rattle.domain_meaning.specs.Tables.{Table}
use Rattle.domain_rows.specs.Held.{Holds}
use Rattle.domain_typed_lists.proofs.Going.{Going}
use Rattle.domain_typed_lists.proofs.typed.typed_list.Given as goal

abbrev pub invariant-loop-next : goal.invariant-loop-next
invariant-loop-next l = (l.initial.at ≤ l.at) × (l.at ≤ length l.text) × (length l.rows ≡ length l.initial.rows) × ((ts t : Table) → Holds 17 l.types l.tn ts → Holds l.max l.initial.rows l.initial.n t → Going l.text l.var l.own ts l.max t l.initial.n l.initial.at l.rows l.n l.g l.at)

abbrev pub decreases-loop-next : goal.decreases-loop-next
decreases-loop-next l = length l.text - l.at
