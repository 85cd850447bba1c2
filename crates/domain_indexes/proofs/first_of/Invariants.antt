use mathlib.Core.Path.{◌≡◌}
use Prim.Native.Nat.{ℕ, ◌-◌, ◌*◌, ◌≤◌}
use Rattle.text_tokens.specs.Runs.{part}
use Rattle.domain_meaning.specs.Tables.{Table}
use Rattle.domain_indexes.specs.Firsts.{first_of}
use Rattle.domain_rows.specs.Held.{Holds}
use Rattle.domain_terms.specs.Scoped.{AllSigned}
use Rattle.domain_indexes.proofs.first_of.Given as goal

abbrev pub invariant-loop-j : goal.invariant-loop-j
invariant-loop-j l = (l.j ≤ l.i) × (l.sum ≤ l.j * 16777216) × ((m to : ℕ) (t : Table) → Holds m (part l.tables l.off to) l.count t → AllSigned t → l.sum ≡ first_of l.n t l.j)

abbrev pub decreases-loop-j : goal.decreases-loop-j
decreases-loop-j l = l.i - l.j
