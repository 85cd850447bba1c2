use mathlib.Core.Path.{◌≡◌}
use mathlib.Core.Bool.{◌||◌}
use Rattle.happening_forms.specs.Summed.{four_at}
use Rattle.happening_meaning.specs.Writes.{some}
use Rattle.happening_meaning.specs.Happening.{each_mark}
use Rattle.happening_writes.specs.Rows.{marks_at}
use Rattle.happening_writes.specs.Left.{shown_left}
use Rattle.happening_writes.specs.Changing.{write_fact, adds}
use Rattle.happening_writes.proofs.facts.write_facts.Given as goal

abbrev pub invariant-loop-m : goal.invariant-loop-m
invariant-loop-m l = (each_mark (write_fact l.add) l.facts (shown_left l.m-iterator) ≡ each_mark (write_fact l.add) l.initial.facts (marks_at l.rows (four_at l.objects l.k) l.from)) × ((l.any || some adds (shown_left l.m-iterator)) ≡ (l.earlier || some adds (marks_at l.rows (four_at l.objects l.k) l.from)))
