use mathlib.Core.Path.{◌≡◌}
use lib.ListN.{length}
use Rattle.domain_meaning.specs.Terms.{Scope}
use Rattle.domain_meaning.specs.Conditions.{condition}
use Rattle.domain_terms.specs.Scoped.{Scoped}
use Rattle.domain_conditions.proofs.Listing.{Onward}
use Prim.Native.Nat.{◌+◌, ◌*◌, ◌-◌, ◌≤◌}
use Rattle.domain_conditions.proofs.trees.+condition_at_conditions_to.Given as goal

-- the measure is twice the remaining bytes, one more for a list, which calls the condition reader where it stands itself
abbrev pub decreases-condition_at : goal.decreases-condition_at
decreases-condition_at l = 2 * (length l.text.now - l.from)

abbrev pub decreases-conditions_to : goal.decreases-conditions_to
decreases-conditions_to l = 2 * (length l.text.now - l.from) + 1

abbrev pub invariant-conditions_to-loop-next : goal.invariant-conditions_to-loop-next
invariant-conditions_to-loop-next l = (l.from ≤ l.at) × (l.at ≤ length l.text) × (length l.code ≡ length l.initial.code) × (l.used ≤ l.u) × (l.u + l.from ≤ l.used + l.at) × ((x : Scope) → Scoped l.tables l.counts x → Onward l.text l.d (condition l.d l.text x) l.from l.initial.code l.used l.left l.code l.at l.u l.l)

abbrev pub decreases-conditions_to-loop-next : goal.decreases-conditions_to-loop-next
decreases-conditions_to-loop-next l = length l.text - l.at
