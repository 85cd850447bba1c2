use mathlib.Core.Path.{◌≡◌}
use Rattle.happening_forms.specs.Summed.{four_at}
use Rattle.happening_writes.specs.Rows.{marks_at}
use Rattle.happening_writes.specs.Left.{left}
use Rattle.happening_writes.specs.Masks.{mask_from}
use Rattle.happening_writes.proofs.masks.writes.Given as goal

abbrev pub invariant-loop-m : goal.invariant-loop-m
invariant-loop-m l = mask_from l.mask (left l.m-iterator) ≡ mask_from l.w (marks_at l.rows (four_at l.objects l.k) l.from)
