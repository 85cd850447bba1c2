use mathlib.Core.Path.{◌≡◌}
use Prim.Native.Nat.{ℕ, ◌+◌, ◌-◌, ◌≤◌}
use lib.ListN.{length, drop}
use lib.Seq.{sets}
use Rattle.text_tokens.specs.Runs.{part}
use Rattle.domain_meaning.specs.Tables.{Table}
use Rattle.domain_indexes.specs.Firsts.{first_of}
use Rattle.domain_rows.specs.Held.{Holds}
use Rattle.domain_terms.specs.Scoped.{AllSigned}
use Rattle.domain_meaning.specs.Indexes.{bases_from, bases_of}
use Rattle.domain_indexes.proofs.bases.bases_at.Given as goal

abbrev pub invariant-loop-i : goal.invariant-loop-i
invariant-loop-i l = (l.i ≤ l.count) × (length l.out ≡ length l.initial.out) × ((m to : ℕ) (t : Table) → Holds m (part l.tables l.off to) l.count t → AllSigned t → sets l.out (l.at + l.i) (bases_from l.n (first_of l.n t l.i) (drop l.i t)) ≡ sets l.initial.out l.at (bases_of l.n t))

abbrev pub decreases-loop-i : goal.decreases-loop-i
decreases-loop-i l = l.count - l.i
