use mathlib.Core.Path.{◌≡◌}
use Rattle.plan_waiting.specs.Lent.{queue_in}
use Rattle.plan_waiting.proofs.Places.{cleaned}
use Rattle.plan_waiting.proofs.lent.back.Given as goal

abbrev pub invariant-loop-i : goal.invariant-loop-i
invariant-loop-i l = (l.slots ≡ cleaned (queue_in l.words l.objects l.n).slots l.i)
