use mathlib.Core.Path.{◌≡◌}
use lib.ListN.{length}
use Rattle.domain_meaning.specs.Terms.{Scope}
use Rattle.domain_meaning.specs.Effects.{effect}
use Rattle.domain_terms.specs.Scoped.{Scoped}
use Rattle.domain_effects.proofs.Listing.{Onward}
use Prim.Native.Nat.{ℕ, ◌+◌, ◌-◌, ◌*◌, ◌≤◌, ◌<◌}
use Rattle.domain_effects.proofs.trees.+effect_at_effects_to.Given as goal

abbrev pub decreases-effect_at : goal.decreases-effect_at
decreases-effect_at l = 2 * (length l.text.now - l.from)

abbrev pub decreases-effects_to : goal.decreases-effects_to
decreases-effects_to l = 2 * (length l.text.now - l.from) + 1

abbrev pub invariant-effects_to-loop-next : goal.invariant-effects_to-loop-next
invariant-effects_to-loop-next l = (l.from ≤ l.at) × (l.at ≤ length l.text) × (length l.code ≡ length l.initial.code) × (l.used ≤ l.u) × (l.u + l.from ≤ l.used + l.at) × ((x : Scope) (k : ℕ) → Scoped l.tables l.counts x → length l.text - l.from < k → Onward l.text l.d (effect l.d l.text x) l.initial.code l.used l.left l.from k l.code l.u l.n l.at)

abbrev pub decreases-effects_to-loop-next : goal.decreases-effects_to-loop-next
decreases-effects_to-loop-next l = length l.text - l.at
