use Rattle.std.proofs.lemmas.Result.{err_from_is_err_and}
use borrow.Enum.Refused.{opened}
use mathlib.Core.Path.{refl, sym, ◌∙◌}
use native.Mathlib.Omega.{arith}
use borrow.Author.Rules.{rules}
use Rattle.domain_due.proofs.Dues.{close_in, ahead_done, ahead_refused, ahead_by}
use Rattle.domain_init.proofs.Holding.{holding_start, holding_close, holding_refused, holding_more}
use Rattle.domain_init.proofs.entries.init_to.Goals as goal

pub loop-next-init : goal.loop-next-init
loop-next-init c = (omega arith, omega arith, refl, refl, λ x s o f. holding_start _ x _ _ _ c.requires.2 c.requires.3)

pub returns-in-Close : goal.returns-in-Close
returns-in-Close c = let r = close_in _ _ c.loop-next.invariant.1 _ _ (sym c.token_at-t.ensures ∙ c.in-Close.is) in (λ x k s o f h. holding_close _ x _ _ _ _ (c.loop-next.invariant.4 x s o f) _ _ (sym c.token_at-t.ensures ∙ c.in-Close.is) k h, ahead_by _ _ _ _ (omega (arith, c.loop-next.invariant.0, r.0)) r.1)

pub entry_at-requires : goal.entry_at-requires
entry_at-requires c = (c.loop-next.invariant.1, c.requires.1)

pub returns-in_err-after : goal.returns-in_err-after
returns-in_err-after c = let p = err_from_is_err_and c.from_residual.result c.from_residual.ensures.1 in rw (p.1, p.2, ← c.in_err-after.was) ((λ x k s o f h. holding_refused _ x _ _ _ _ (c.loop-next.invariant.4 x s o f) _ c.token_at-t.ensures (opened c.in_default.in_default-own.keys2) _ _ _ (c.entry_at.ensures.0 x (c.loop-next.invariant.4 x s o f).init s o f (c.loop-next.invariant.4 x s o f).stands) _ _ c.in_err-after.was k h, ahead_refused _ _ _ _ _ c.in_err-after.was))

pub loop-next-smaller : goal.loop-next-smaller
loop-next-smaller c = let q = ahead_done _ _ _ _ _ c.in_ok-after.was c.entry_at.ensures.1 in omega (arith, q.0, q.1)

pub loop-next-preserved : goal.loop-next-preserved
loop-next-preserved c = let q = ahead_done _ _ _ _ _ c.in_ok-after.was c.entry_at.ensures.1 in (omega (arith, c.loop-next.invariant.0, q.0), q.1, search rules, search rules, λ x s o f. holding_more _ x _ _ _ _ (c.loop-next.invariant.4 x s o f) _ c.token_at-t.ensures (opened c.in_default.in_default-own.keys2) _ _ _ (c.entry_at.ensures.0 x (c.loop-next.invariant.4 x s o f).init s o f (c.loop-next.invariant.4 x s o f).stands) _ _ c.in_ok-after.was q.0 q.1)
