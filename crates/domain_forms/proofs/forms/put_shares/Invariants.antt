use Prim.Native.Nat.{◌+◌, ◌-◌, ◌≤◌}
use Rattle.domain_stored_meaning.specs.Decode.{args_at}
use Rattle.domain_prepared_meaning.specs.Rows.{share_bytes}
use Rattle.domain_forms.proofs.Storing.{Toward}
use Rattle.domain_forms.proofs.Folding.{rest_at}
use Rattle.domain_forms.proofs.forms.put_shares.Given as goal

abbrev pub invariant-loop-i : goal.invariant-loop-i
invariant-loop-i l = (l.i ≤ l.k) × (l.u ≤ l.used + l.i) × Toward l.rows l.u (rest_at l.code l.at l.k l.i) l.initial.rows l.used (share_bytes (args_at l.code l.at l.k))

abbrev pub decreases-loop-i : goal.decreases-loop-i
decreases-loop-i l = l.k - l.i
