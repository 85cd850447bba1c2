use mathlib.Core.Path.{◌≡◌}
use Prim.Native.Nat.{◌-◌}
use lib.ListN.{length}
use Rattle.domain_meaning.specs.Tables.{entry_at, wanted_of}
use Rattle.domain_stored_meaning.specs.Entries.{signed_in}
use Rattle.plan_lines.specs.Knowing.{known_in}
use Rattle.plan_lines.proofs.Objects.{Onward}
use Rattle.plan_lines.proofs.reading.objects_at.Given as goal

abbrev pub invariant-loop-p : goal.invariant-loop-p
invariant-loop-p l = (length l.out ≡ length l.initial.out) × Onward l.text (known_in l.tables l.counts l.heads l.acting l.rows) (wanted_of (entry_at (signed_in l.heads l.acting) l.i)) l.from l.initial.out l.out l.j l.at

abbrev pub decreases-loop-p : goal.decreases-loop-p
decreases-loop-p l = l.arity - l.j
