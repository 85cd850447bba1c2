use mathlib.Core.Path.{◌≡◌}
use mathlib.Core.Bool.{◌||◌}
use Prim.Native.Nat.{◌-◌}
use Rattle.happening_meaning.specs.Writes.{some}
use Rattle.happening_meaning.specs.Happening.{each_mark, all_marks}
use Rattle.happening_forms.specs.Summed.{summed}
use Rattle.happening_placing.specs.Given.{points_in}
use Rattle.happening_writes.specs.Changing.{write_fact, adds}
use Rattle.happening_steps.proofs.applying.write_points.Given as goal

abbrev pub invariant-loop-j : goal.invariant-loop-j
invariant-loop-j l = (each_mark (write_fact l.add) l.facts (all_marks summed (points_in l.rows l.points l.objects (l.n - l.j) l.j)) ≡ each_mark (write_fact l.add) l.initial.facts (all_marks summed (points_in l.rows l.points l.objects l.n 0))) × ((l.any || some adds (all_marks summed (points_in l.rows l.points l.objects (l.n - l.j) l.j))) ≡ some adds (all_marks summed (points_in l.rows l.points l.objects l.n 0)))
