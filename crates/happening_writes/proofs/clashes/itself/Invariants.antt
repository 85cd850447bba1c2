use mathlib.Core.Path.{◌≡◌}
use Rattle.happening_forms.specs.Summed.{four_at}
use Rattle.happening_meaning.specs.Writes.{itself}
use Rattle.happening_writes.specs.Rows.{marks_at}
use Rattle.happening_writes.specs.Left.{shown_left}
use Rattle.happening_writes.proofs.clashes.itself.Given as goal

abbrev pub invariant-loop-m : goal.invariant-loop-m
invariant-loop-m l = (goal.iterator-loop-m).can_next l.marks × (goal.iterator-loop-m).is_finite l.marks × (itself (shown_left l.marks) ≡ itself (marks_at l.rows (four_at l.objects l.k) l.from))
