use mathlib.Core.Path.{◌≡◌}
use Prim.Native.Nat.{◌-◌}
use lib.ListN.{length}
use Rattle.domain_prepared_meaning.specs.Decode.{tests_from, tests_at}
use Rattle.happening_meaning.specs.Writes.{some, cond_reads}
use Rattle.happening_forms.specs.Summed.{summed, four_at}
use Rattle.happening_tests.proofs.reads.read.Given as goal

abbrev pub invariant-loop : goal.invariant-loop
invariant-loop l = some (cond_reads summed (four_at l.objects l.k) l.numeric l.x) (tests_from (length l.rows - l.counter) l.rows l.i) ≡ some (cond_reads summed (four_at l.objects l.k) l.numeric l.x) (tests_at l.rows l.at)
