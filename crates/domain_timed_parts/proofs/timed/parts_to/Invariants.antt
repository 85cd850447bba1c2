use mathlib.Core.Path.{◌≡◌}
use Prim.Native.Nat.{ℕ, ◌+◌, ◌-◌, ◌≤◌, ◌<◌}
use lib.ListN.{length}
use Rattle.domain_meaning.specs.Terms.{Scope}
use Rattle.domain_terms.specs.Scoped.{Scoped}
use Rattle.domain_timed_parts.specs.Bodies.{body_of}
use Rattle.domain_timed_parts.proofs.Listed.{Onward}
use Rattle.domain_timed_parts.proofs.timed.parts_to.Given as goal

abbrev pub invariant-loop-next : goal.invariant-loop-next
invariant-loop-next l = (l.from ≤ l.at) × (l.at ≤ length l.text) × (l.used ≤ l.free) × (l.free + l.from ≤ l.used + l.at) × ((x : Scope) (k : ℕ) → Scoped l.tables l.counts x → length l.text - l.from < k → Onward l.text l.over (body_of l.over l.text x) l.d k l.left l.from l.initial.code l.used l.more l.at l.code l.free) × (length l.code ≡ length l.initial.code)

abbrev pub decreases-loop-next : goal.decreases-loop-next
decreases-loop-next l = length l.text - l.at
