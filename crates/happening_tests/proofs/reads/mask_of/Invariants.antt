use mathlib.Core.Path.{◌≡◌}
use Prim.Native.Nat.{◌-◌}
use lib.ListN.{length}
use Rattle.domain_prepared_meaning.specs.Decode.{tests_from, tests_at}
use Rattle.happening_forms.specs.Summed.{summed, four_at}
use Rattle.happening_tests.specs.Reading.{mask_from, mask_of}
use Rattle.happening_tests.proofs.reads.mask_of.Given as goal

abbrev pub invariant-loop : goal.invariant-loop
invariant-loop l = mask_from summed (four_at l.objects l.k) l.m (tests_from (length l.rows - l.counter) l.rows l.i) ≡ mask_of summed (four_at l.objects l.k) (tests_at l.rows l.at)
