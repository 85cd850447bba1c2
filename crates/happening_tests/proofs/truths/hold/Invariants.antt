use mathlib.Core.Path.{◌≡◌}
use Prim.Native.Nat.{◌-◌}
use lib.ListN.{length}
use Rattle.domain_prepared_meaning.specs.Decode.{tests_from, tests_at}
use Rattle.happening_meaning.specs.Truths.{hold_all}
use Rattle.happening_forms.specs.Summed.{summed, four_at}
use Rattle.happening_state.specs.States.{state_in}
use Rattle.happening_tests.proofs.truths.hold.Given as goal

abbrev pub invariant-loop : goal.invariant-loop
invariant-loop l = hold_all summed (state_in l.facts l.numbers) (four_at l.objects l.k) (tests_from (length l.rows - l.counter) l.rows l.i) ≡ hold_all summed (state_in l.facts l.numbers) (four_at l.objects l.k) (tests_at l.rows l.at)
