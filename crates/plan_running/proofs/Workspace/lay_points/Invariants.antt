use mathlib.Core.Path.{◌≡◌}
use Rattle.plan_running.proofs.Laying.{Laying}
use Rattle.plan_running.proofs.Slots.{due_slots}
use Rattle.plan_running.proofs.Workspace.lay_points.Given as goal

abbrev pub invariant-loop-i : goal.invariant-loop-i
invariant-loop-i l =
    (l.self ≡ record l.initial.self { points = l.self.points; whos = l.self.whos })
    × Laying (due_slots l.initial.self.words l.initial.self.objects l.k) l.self.points l.self.whos l.i
