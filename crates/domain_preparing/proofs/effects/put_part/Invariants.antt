use Prim.Native.Nat.{◌+◌, ◌-◌, ◌*◌, ◌≤◌}
use lib.ListN.{length}
use Rattle.domain_stored_meaning.specs.Decode.{effects_at, effect_list_at}
use Rattle.domain_preparing.specs.Written.{effects_in}
use Rattle.domain_preparing.proofs.Walking.{Walk}
use Rattle.domain_preparing.proofs.effects.put_part.Given as goal

abbrev pub invariant-loop-left : goal.invariant-loop-left
invariant-loop-left l = (l.i ≤ length l.code + 8) × (l.u + 6 * l.at ≤ l.used + 6 * l.i) × Walk (effects_in l.firsts) l.initial.rows l.used (effect_list_at l.code l.at) l.rows l.u (effects_at l.left l.code l.i)

abbrev pub decreases-loop-left : goal.decreases-loop-left
decreases-loop-left l = l.left
