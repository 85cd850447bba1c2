use mathlib.Core.Path.{◌≡◌}
use Prim.Native.Nat.{ℕ, ◌-◌, ◌+◌, ◌≤◌}
use lib.ListN.{length}
use Rattle.text_tokens.specs.Runs.{part}
use Rattle.domain_meaning.specs.Tables.{Table, entry_at, wanted_of}
use Rattle.domain_meaning.specs.Terms.{Scope}
use Rattle.domain_rows.specs.Held.{Holds}
use Rattle.domain_terms.specs.Scoped.{Scoped, AllSigned}
use Rattle.domain_terms.proofs.Wanted.{Onward}
use Rattle.domain_terms.proofs.arguments.arguments_at.Given as goal

abbrev pub invariant-loop-p : goal.invariant-loop-p
invariant-loop-p l = (l.from ≤ l.at) × (l.at ≤ length l.text) × (length l.code ≡ length l.initial.code) × (l.used ≤ l.u) × (l.u + l.from ≤ l.used + l.at) × ((x : Scope) (m to : ℕ) (t : Table) → Scoped l.tables l.counts x → Holds m (part l.tables l.off to) l.n t → AllSigned t → Onward l.text l.d l.from x (wanted_of (entry_at t l.i)) l.initial.code l.used l.code l.j l.at l.u) × (l.j ≤ 4)

abbrev pub decreases-loop-p : goal.decreases-loop-p
decreases-loop-p l = length l.text - l.at
