use mathlib.Core.Path.{◌≡◌}
use lib.ListN.{take}
use Rattle.plan_waiting.specs.Waiting.{used}
use Rattle.plan_waiting.specs.Lent.{queue_in, Kept}
use Rattle.plan_waiting.proofs.lent.lend.Given as goal

abbrev pub invariant-loop-i : goal.invariant-loop-i
invariant-loop-i l = Kept l.words l.objects l.i × (used (queue_in l.words l.objects l.i) ≡ take l.i l.q.slots)
