use Prim.Native.Nat.{◌-◌}
use lib.ListN.{length}
use Rattle.domain_prepared_meaning.specs.Decode.{tests_from, tests_at}
use Rattle.happening_forms.specs.Summed.{summed, four_at}
use Rattle.happening_meetings.specs.Accesses.{tests_accesses}
use Rattle.happening_meetings.proofs.Going.{Onward}
use Rattle.happening_meetings.proofs.points.walk_tests.Given as goal

abbrev pub invariant-loop : goal.invariant-loop
invariant-loop l = Onward l.mode l.found l.marks (tests_accesses summed (four_at l.objects l.k) (tests_from (length l.rows - l.counter) l.rows l.i)) l.initial.marks (tests_accesses summed (four_at l.objects l.k) (tests_at l.rows l.at))
