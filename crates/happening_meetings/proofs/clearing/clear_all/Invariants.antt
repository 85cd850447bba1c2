use mathlib.Core.Path.{◌≡◌}
use Prim.Native.Nat.{◌+◌, ◌-◌}
use Rattle.happening_meaning.specs.Happening.{each, clear}
use Rattle.happening_forms.specs.Summed.{summed}
use Rattle.happening_placing.specs.Given.{point_in, points_in}
use Rattle.happening_meetings.proofs.clearing.clear_all.Given as goal

abbrev pub invariant-loop-j : goal.invariant-loop-j
invariant-loop-j l = each (clear summed (point_in l.rows l.points l.objects l.i)) (points_in l.rows l.points l.objects (l.n - l.j) l.j) ≡ each (clear summed (point_in l.rows l.points l.objects l.i)) (points_in l.rows l.points l.objects (l.n - (l.i + 1)) (l.i + 1))
