use Rattle.happening_expressions.proofs.Numerals.{Read}
use Rattle.happening_expressions.proofs.literals.little_at.Given as goal

abbrev pub invariant-loop-i : goal.invariant-loop-i
invariant-loop-i l = Read l.rows l.at l.k l.acc l.i
