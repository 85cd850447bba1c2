use Rattle.plan_waiting.proofs.Moving.{Carried}
use Rattle.plan_waiting.proofs.lent.take_out.Given as goal

abbrev pub invariant-loop-i : goal.invariant-loop-i
invariant-loop-i l = Carried l.initial.words l.words l.n l.p l.i l.carried
