use mathlib.Core.Path.{◌≡◌}
use Prim.Native.Nat.{◌-◌}
use lib.ListN.{length}
use Rattle.happening_forms.specs.Summed.{four_at, summed}
use Rattle.domain_prepared_meaning.specs.Decode.{effects_at}
use Rattle.happening_meaning.specs.Writes.{some, right_reads}
use Rattle.happening_writes.proofs.clashes.rights_read.Given as goal

abbrev pub invariant-loop-row : goal.invariant-loop-row
invariant-loop-row l = some (right_reads summed (four_at l.objects l.k) l.x) (effects_at l.rows l.at) ≡ some (right_reads summed (four_at l.objects l.k) l.x) (effects_at l.rows l.from)

abbrev pub decreases-loop-row : goal.decreases-loop-row
decreases-loop-row l = length l.rows - l.at
