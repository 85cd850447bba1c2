use mathlib.Core.Path.{◌≡◌}
use Prim.Native.Nat.{◌+◌, ◌-◌, ◌≤◌}
use lib.ListN.{length}
use lib.Seq.{sets}
use Rattle.domain_literals.specs.Literal.{bytes_of}
use Rattle.domain_forms.proofs.numbers.put_bytes.Given as goal

abbrev pub invariant-loop-i : goal.invariant-loop-i
invariant-loop-i l = (l.i ≤ l.k) × (length l.rows ≡ length l.initial.rows) × (sets l.rows (l.at + l.i) (bytes_of (l.k - l.i) l.rest) ≡ sets l.initial.rows l.at (bytes_of l.k l.v))

abbrev pub decreases-loop-i : goal.decreases-loop-i
decreases-loop-i l = l.k - l.i
