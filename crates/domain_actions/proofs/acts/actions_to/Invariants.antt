use mathlib.Core.Path.{◌≡◌}
use Prim.Native.Nat.{ℕ, ◌+◌, ◌-◌, ◌≤◌, ◌<◌}
use lib.ListN.{length}
use Rattle.domain_meaning.specs.Terms.{Scope}
use Rattle.domain_terms.specs.Scoped.{Scoped}
use Rattle.domain_actions.proofs.Gathering.{Onward}
use Rattle.domain_actions.proofs.acts.actions_to.Given as goal

abbrev pub invariant-loop-durative : goal.invariant-loop-durative
invariant-loop-durative l = (l.from ≤ l.at) × (l.at ≤ length l.text) × (l.used + 2 ≤ l.at) × ((x : Scope) (k : ℕ) → Scoped l.tables l.counts x → length l.text - l.from < k → Onward l.text x k l.from l.initial.code l.initial.starts l.at l.n l.used l.rows l.code l.starts) × (length l.rows ≡ length l.initial.rows) × (length l.code ≡ length l.initial.code) × (length l.starts ≡ length l.initial.starts)

abbrev pub decreases-loop-durative : goal.decreases-loop-durative
decreases-loop-durative l = length l.text - l.at
