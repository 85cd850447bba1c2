use mathlib.Core.Path.{◌≡◌}
use Prim.Native.Nat.{◌-◌}
use lib.ListN.{length}
use Rattle.happening_forms.specs.Summed.{four_at, summed}
use Rattle.domain_prepared_meaning.specs.Decode.{effects_at}
use Rattle.happening_meaning.specs.Happening.{change_all}
use Rattle.happening_writes.specs.Changing.{Room}
use Rattle.happening_writes.proofs.numbers.change.Given as goal

abbrev pub invariant-loop-row : goal.invariant-loop-row
invariant-loop-row l = Room (length (effects_at l.rows l.at)) l.old l.fresh × (change_all summed l.old l.line (four_at l.objects l.k) l.fresh (effects_at l.rows l.at) ≡ change_all summed l.old l.line (four_at l.objects l.k) l.initial.fresh (effects_at l.rows l.from))

abbrev pub decreases-loop-row : goal.decreases-loop-row
decreases-loop-row l = length l.rows - l.at
