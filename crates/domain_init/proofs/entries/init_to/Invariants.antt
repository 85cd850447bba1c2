use mathlib.Core.Path.{◌≡◌}
use mathlib.Core.Bool.{true, false}
use Prim.Native.Nat.{◌-◌, ◌≤◌}
use lib.ListN.{length}
use Rattle.domain_meaning.specs.Terms.{Scope}
use Rattle.domain_meaning.specs.Problem.{sums_fit}
use Rattle.domain_terms.specs.Scoped.{Scoped}
use Rattle.domain_init.proofs.Holding.{Holding}
use Rattle.domain_init.proofs.entries.init_to.Given as goal

abbrev pub invariant-loop-next : goal.invariant-loop-next
invariant-loop-next l = (l.from ≤ l.at) × (l.at ≤ length l.text) × (length l.facts ≡ length l.initial.facts) × (length l.numbers ≡ length l.initial.numbers) × ((c : Scope) → Scoped l.tables l.counts c → c.in_action ≡ false → sums_fit c ≡ true → Holding l.text c l.from l.facts l.numbers l.at)

abbrev pub decreases-loop-next : goal.decreases-loop-next
decreases-loop-next l = length l.text - l.at
