use Rattle.domain_forms.proofs.Reading.{Read}
use Rattle.domain_forms.proofs.cells.little_at.Given as goal

abbrev pub invariant-loop-i : goal.invariant-loop-i
invariant-loop-i l = Read l.code l.at l.k l.acc l.i

abbrev pub decreases-loop-i : goal.decreases-loop-i
decreases-loop-i l = l.i
