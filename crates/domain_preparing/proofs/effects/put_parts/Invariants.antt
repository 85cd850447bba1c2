use Prim.Native.Nat.{◌+◌, ◌*◌, ◌≤◌}
use lib.ListN.{length}
use Rattle.domain_stored_meaning.specs.Decode.{when_of, effect_list_at}
use Rattle.domain_preparing.specs.Written.{effects_in}
use Rattle.domain_forms.proofs.Storing.{Toward}
use Rattle.domain_preparing.proofs.Parting.{timely}
use Rattle.domain_preparing.proofs.effects.put_parts.Given as goal

abbrev pub invariant-loop-left : goal.invariant-loop-left
invariant-loop-left l = (l.i ≤ l.at + length l.code + 8) × (l.u + 6 * l.at ≤ l.used + 6 * l.i) × Toward l.rows l.u (timely (when_of l.time) (effect_list_at l.code) (effects_in l.firsts) l.code l.left l.i) l.initial.rows l.used (timely (when_of l.time) (effect_list_at l.code) (effects_in l.firsts) l.code (length l.code) l.at)

abbrev pub decreases-loop-left : goal.decreases-loop-left
decreases-loop-left l = l.left
