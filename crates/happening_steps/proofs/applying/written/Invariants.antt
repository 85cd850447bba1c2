use mathlib.Core.Path.{◌≡◌}
use Prim.Native.Nat.{◌-◌}
use Rattle.happening_meaning.specs.Happening.{all_marks}
use Rattle.happening_forms.specs.Summed.{summed}
use Rattle.happening_placing.specs.Given.{points_in}
use Rattle.happening_writes.specs.Masks.{mask_from}
use Rattle.happening_steps.proofs.applying.written.Given as goal

abbrev pub invariant-loop-j : goal.invariant-loop-j
invariant-loop-j l = mask_from l.mask (all_marks summed (points_in l.rows l.points l.objects (l.n - l.j) l.j)) ≡ mask_from 0 (all_marks summed (points_in l.rows l.points l.objects l.n 0))
