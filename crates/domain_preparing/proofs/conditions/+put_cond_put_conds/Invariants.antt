use Prim.Native.Nat.{◌+◌, ◌-◌, ◌*◌, ◌≤◌}
use lib.ListN.{length}
use Rattle.domain_stored_meaning.specs.Decode.{conds_at, cond_at}
use Rattle.domain_preparing.specs.Written.{conds_in}
use Rattle.domain_preparing.proofs.Walking.{Walk}
use Rattle.domain_preparing.proofs.conditions.+put_cond_put_conds.Given as goal

abbrev pub decreases-put_cond : goal.decreases-put_cond
decreases-put_cond l = 2 * l.depth

abbrev pub decreases-put_conds : goal.decreases-put_conds
decreases-put_conds l = 2 * l.depth + 1

abbrev pub invariant-put_conds-loop-left : goal.invariant-put_conds-loop-left
invariant-put_conds-loop-left l = (l.i ≤ length l.code + 8) × (l.u + 6 * l.at ≤ l.used + 6 * l.i) × Walk (conds_in l.firsts) l.initial.rows l.used (conds_at (cond_at l.depth l.code) (length l.code) l.code l.at) l.rows l.u (conds_at (cond_at l.depth l.code) l.left l.code l.i)

abbrev pub decreases-put_conds-loop-left : goal.decreases-put_conds-loop-left
decreases-put_conds-loop-left l = l.left
