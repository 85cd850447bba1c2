use mathlib.Core.Path.{◌≡◌}
use Rattle.happening_forms.specs.Summed.{four_at}
use Rattle.happening_writes.specs.Rows.{marks_at}
use Rattle.happening_writes.specs.Left.{shown_left}
use Rattle.happening_writes.specs.Changing.{settle_all}
use Rattle.happening_writes.proofs.numbers.settle.Given as goal

abbrev pub invariant-loop-m : goal.invariant-loop-m
invariant-loop-m l = settle_all l.source l.target (shown_left l.m-iterator) ≡ settle_all l.source l.initial.target (marks_at l.rows (four_at l.objects l.k) l.from)
