use mathlib.Core.Path.{◌≡◌}
use Prim.Native.Nat.{◌-◌}
use Rattle.happening_meaning.specs.Happening.{each, tested}
use Rattle.happening_state.specs.States.{state_in}
use Rattle.happening_forms.specs.Summed.{summed}
use Rattle.happening_placing.specs.Given.{points_in}
use Rattle.happening_steps.proofs.judging.test_all.Given as goal

abbrev pub invariant-loop-j : goal.invariant-loop-j
invariant-loop-j l = each (tested summed (state_in l.facts l.numbers)) (points_in l.rows l.points l.objects (l.n - l.j) l.j) ≡ each (tested summed (state_in l.facts l.numbers)) (points_in l.rows l.points l.objects l.n 0)
