use Rattle.std.proofs.lemmas.Result.{err_from_is_err_and}
use native.Mathlib.Omega.{arith}
use Rattle.domain_due.proofs.Dues.{ahead_done, ahead_refused}
use Rattle.domain_init.proofs.Ways.{ahead_later, number_refused, number_done}
use Rattle.domain_init.proofs.entries.number_at.Goals as goal

pub returns-in_err-after : goal.returns-in_err-after
returns-in_err-after c = let p = err_from_is_err_and c.from_residual.result c.from_residual.ensures.1 in rw (p.1, p.2, ← c.in_err-after.was) ((λ x y fs k o f st. number_refused _ x y _ _ (c.target_at.ensures.0 x y fs k o f st) fs _ _ _ c.in_err-after.was, ahead_refused _ _ _ _ _ c.in_err-after.was))

pub value_at-requires : goal.value_at-requires
value_at-requires c = (ahead_done _ _ _ _ _ c.in_ok-after.was c.target_at.ensures.1).1

pub returns : goal.returns
returns c = (λ x y fs k o f st. number_done _ x y _ _ (c.target_at.ensures.0 x y fs k o f st) fs _ _ _ _ c.in_ok-after.was (c.value_at.ensures.0 y fs st), let u = ahead_done _ _ _ _ _ c.in_ok-after.was c.target_at.ensures.1 in ahead_later _ _ _ _ (omega (arith, u.0)) c.value_at.ensures.1)
