use mathlib.Core.Path.{◌≡◌}
use Prim.Native.Nat.{◌-◌, ◌*◌}
use Rattle.happening_meaning.specs.Happening.{change_points}
use Rattle.happening_forms.specs.Summed.{summed}
use Rattle.happening_placing.specs.Given.{points_in}
use Rattle.happening_writes.specs.Changing.{Room}
use Rattle.happening_steps.proofs.applying.change_points.Given as goal

abbrev pub invariant-loop-j : goal.invariant-loop-j
invariant-loop-j l = Room ((l.n - l.j) * 22000) l.old l.fresh × (change_points summed l.old l.fresh (points_in l.rows l.points l.objects (l.n - l.j) l.j) ≡ change_points summed l.old l.initial.fresh (points_in l.rows l.points l.objects l.n 0))
