use mathlib.Core.Path.{◌≡◌}
use Prim.Native.Nat.{◌-◌}
use Rattle.happening_meaning.specs.Happening.{pairs}
use Rattle.happening_forms.specs.Summed.{summed}
use Rattle.happening_placing.specs.Given.{points_in}
use Rattle.happening_meetings.proofs.clearing.each_pair.Given as goal

abbrev pub invariant-loop-i : goal.invariant-loop-i
invariant-loop-i l = pairs summed (points_in l.rows l.points l.objects (l.n - l.i) l.i) ≡ pairs summed (points_in l.rows l.points l.objects l.n 0)
