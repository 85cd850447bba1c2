use mathlib.Core.Path.{◌≡◌}
use Prim.Native.Nat.{◌-◌}
use Rattle.happening_meaning.specs.Happening.{each, apart}
use Rattle.happening_forms.specs.Summed.{summed}
use Rattle.happening_placing.specs.Given.{points_in}
use Rattle.happening_steps.proofs.judging.apart_all.Given as goal

abbrev pub invariant-loop-j : goal.invariant-loop-j
invariant-loop-j l = each (apart summed) (points_in l.rows l.points l.objects (l.n - l.j) l.j) ≡ each (apart summed) (points_in l.rows l.points l.objects l.n 0)
