use mathlib.Core.Path.{◌≡◌}
use Prim.Native.Nat.{◌-◌}
use Rattle.happening_meaning.specs.Happening.{all_marks}
use Rattle.happening_forms.specs.Summed.{summed}
use Rattle.happening_placing.specs.Given.{points_in}
use Rattle.happening_writes.specs.Changing.{settle_all}
use Rattle.happening_steps.proofs.applying.settle_points.Given as goal

abbrev pub invariant-loop-j : goal.invariant-loop-j
invariant-loop-j l = settle_all l.source l.target (all_marks summed (points_in l.rows l.points l.objects (l.n - l.j) l.j)) ≡ settle_all l.source l.initial.target (all_marks summed (points_in l.rows l.points l.objects l.n 0))
