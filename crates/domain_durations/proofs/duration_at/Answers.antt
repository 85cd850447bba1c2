use Rattle.std.proofs.lemmas.Result.{err_from_is_err_and}
use native.Mathlib.Omega.{arith}
use Rattle.domain_due.proofs.Dues.{ahead_done, ahead_refused}
use Rattle.domain_terms.proofs.Wanted.{room_refused}
use Rattle.domain_durations.proofs.Rules.{rule_unbegun, rule_empty, rule_open, rule_read, over_done, rule_places}
use Rattle.domain_durations.proofs.duration_at.Goals as goal

pub returns-in_err-at : goal.returns-in_err-at
returns-in_err-at c = let p = err_from_is_err_and c.from_residual.result c.from_residual.ensures.1 in rw (p.1, p.2, ← c.in_err-at.was) ((λ x h. rule_unbegun _ x _ _ _ _ c.rule_begun.ensures.0 _ _ c.in_err-at.was, ahead_refused _ _ _ _ _ c.in_err-at.was, room_refused _ _ _ _ _ c.in_err-at.was))

pub expression_at-requires : goal.expression_at-requires
expression_at-requires c = let b = ahead_done _ _ _ _ _ c.in_ok-at.was c.rule_begun.ensures.1 in (b.1, c.requires.1, omega (arith, b.0, b.1, c.requires.2))

pub returns-in_err-after : goal.returns-in_err-after
returns-in_err-after c = let p = err_from_is_err_and c.from_residual-in_err-after.result c.from_residual-in_err-after.ensures.1 in rw (p.1, p.2, ← c.in_err-after.was) ((λ x h. rule_empty _ x _ _ _ _ c.rule_begun.ensures.0 _ _ c.in_ok-at.was _ _ (c.expression_at.ensures.0 x h) _ _ c.in_err-after.was, ahead_refused _ _ _ _ _ c.in_err-after.was, room_refused _ _ _ _ _ c.in_err-after.was))

pub closing-requires : goal.closing-requires
closing-requires c = let e = ahead_done _ _ _ _ _ c.in_ok-after.was c.expression_at.ensures.1 in e.1

pub returns-in_err-end : goal.returns-in_err-end
returns-in_err-end c = let p = err_from_is_err_and c.from_residual-in_err-end.result c.from_residual-in_err-end.ensures.1 in rw (p.1, p.2, ← c.in_err-end.was) ((λ x h. rule_open _ x _ _ _ _ c.rule_begun.ensures.0 _ _ c.in_ok-at.was _ _ (c.expression_at.ensures.0 x h) _ _ c.in_ok-after.was _ c.closing.ensures.0 _ _ c.in_err-end.was, ahead_refused _ _ _ _ _ c.in_err-end.was, room_refused _ _ _ _ _ c.in_err-end.was))

pub returns : goal.returns
returns c = let b = ahead_done _ _ _ _ _ c.in_ok-at.was c.rule_begun.ensures.1 in let e = ahead_done _ _ _ _ _ c.in_ok-after.was c.expression_at.ensures.1 in let o = over_done _ _ _ _ _ c.in_ok-after.was c.expression_at.ensures.2 in let l = ahead_done _ _ _ _ _ c.in_ok-end.was c.closing.ensures.1 in let w = rule_places _ _ _ _ _ _ _ b.0 e.0 l.0 l.1 o.0 o.1 in (λ x h. rule_read _ x _ _ _ _ c.rule_begun.ensures.0 _ _ c.in_ok-at.was _ _ (c.expression_at.ensures.0 x h) _ _ c.in_ok-after.was _ c.closing.ensures.0 _ _ c.in_ok-end.was, w.0, w.1)
