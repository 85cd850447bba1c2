use Prim.Native.Nat.{◌-◌}
use lib.ListN.{length}
use Rattle.domain_prepared_meaning.specs.Decode.{effects_at}
use Rattle.happening_forms.specs.Summed.{summed, four_at}
use Rattle.happening_meetings.specs.Accesses.{effects_accesses}
use Rattle.happening_meetings.proofs.Going.{Onward}
use Rattle.happening_meetings.proofs.points.walk_effects.Given as goal

abbrev pub invariant-loop-row : goal.invariant-loop-row
invariant-loop-row l = Onward l.mode l.found l.marks (effects_accesses summed (four_at l.objects l.k) (effects_at l.rows l.at)) l.initial.marks (effects_accesses summed (four_at l.objects l.k) (effects_at l.rows l.from))

abbrev pub decreases-loop-row : goal.decreases-loop-row
decreases-loop-row l = length l.rows - l.at
