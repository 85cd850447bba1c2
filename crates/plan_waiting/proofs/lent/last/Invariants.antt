use mathlib.Core.Path.{◌≡◌}
use Prim.Native.Nat.{ℕ, ◌<◌}
use mathlib.Core.List.{List}
use Rattle.plan_meaning.specs.Plan.{latest}
use Rattle.plan_waiting.specs.Waiting.{waiting}
use Rattle.plan_waiting.specs.Lent.{queue_in}
use Rattle.plan_waiting.proofs.lent.last.Given as goal

abbrev pub invariant-loop-i : goal.invariant-loop-i
invariant-loop-i l = ((o : List ℕ) → l.best ≡ latest (waiting (queue_in l.words o l.i))) × (l.best < 2000000000000)
