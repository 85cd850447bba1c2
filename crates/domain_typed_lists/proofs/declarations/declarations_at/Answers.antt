use borrow.Enum.Refused.{opened}
use mathlib.Core.Path.{refl, sym, ◌∙◌}
use native.Mathlib.Omega.{arith}
use borrow.Author.Rules.{rules}
use Rattle.std.proofs.lemmas.Result.{err_from_is_err_and}
use Rattle.domain_due.proofs.Dues.{close_in, ahead_done, ahead_refused, ahead_by}
use Rattle.domain_typed_lists.proofs.Declaring.{declaring_close, declaring_no_open, declaring_more, declaring_refused}
use Rattle.domain_typed_lists.proofs.declarations.declarations_at.Goals as goal

pub returns-in-Close : goal.returns-in-Close
returns-in-Close c = let r = close_in _ _ c.loop-next.invariant.1 _ _ (sym c.token_at-c.ensures ∙ c.in-Close.is) in (λ ts t k i h. declaring_close _ ts _ _ t _ _ _ _ (c.loop-next.invariant.3 ts t i h) _ _ (sym c.token_at-c.ensures ∙ c.in-Close.is) k, ahead_by _ _ _ _ (omega (arith, c.loop-next.invariant.0)) r.1)

pub returns-in_err-inside : goal.returns-in_err-inside
returns-in_err-inside c = let p = err_from_is_err_and c.from_residual.result c.from_residual.ensures.1 in rw (p.1, p.2) (λ ts t k i h. declaring_no_open _ ts _ _ t _ _ _ _ (c.loop-next.invariant.3 ts t i h) _ c.token_at-c.ensures (opened c.in_default.in_default-own.keys2) _ c.opening.ensures.0 _ _ _ c.in_err-inside.was k, ahead_refused _ _ _ _ _ refl)

pub declaration_at-requires : goal.declaration_at-requires
declaration_at-requires c = ((ahead_done _ _ _ _ _ c.in_ok-inside.was c.opening.ensures.1).1, c.requires.1, ((c.loop-next.invariant.3 c.requires.1.0 c.requires.2.0 c.requires.1.1 c.requires.2.1).table, (c.loop-next.invariant.3 c.requires.1.0 c.requires.2.0 c.requires.1.1 c.requires.2.1).holds), c.requires.3)

pub returns-in_err-after : goal.returns-in_err-after
returns-in_err-after c = let p = err_from_is_err_and c.from_residual-in_err-after.result c.from_residual-in_err-after.ensures.1 in rw (p.1, p.2) (λ ts t k i h. declaring_refused _ ts _ _ t _ _ _ _ (c.loop-next.invariant.3 ts t i h) _ c.token_at-c.ensures (opened c.in_default.in_default-own.keys2) _ c.opening.ensures.0 _ _ c.in_ok-inside.was _ _ (c.declaration_at.ensures.0 ts (c.loop-next.invariant.3 ts t i h).table i (c.loop-next.invariant.3 ts t i h).holds) _ _ c.in_err-after.was k, ahead_refused _ _ _ _ _ refl)

pub loop-next-smaller : goal.loop-next-smaller
loop-next-smaller c = let r = ahead_done _ _ _ _ _ c.in_ok-inside.was c.opening.ensures.1 in omega (arith, ahead_done _ _ _ _ _ c.in_ok-after.was c.declaration_at.ensures.1)

pub loop-next-preserved : goal.loop-next-preserved
loop-next-preserved c = let r = ahead_done _ _ _ _ _ c.in_ok-inside.was c.opening.ensures.1 in let q = ahead_done _ _ _ _ _ c.in_ok-after.was c.declaration_at.ensures.1 in (omega (arith, c.loop-next.invariant.0), q.1, search rules, λ ts t i h. declaring_more _ ts _ _ t _ _ _ _ (c.loop-next.invariant.3 ts t i h) _ c.token_at-c.ensures (opened c.in_default.in_default-own.keys2) _ c.opening.ensures.0 _ _ c.in_ok-inside.was _ _ (c.declaration_at.ensures.0 ts (c.loop-next.invariant.3 ts t i h).table i (c.loop-next.invariant.3 ts t i h).holds) _ _ c.in_ok-after.was (omega arith) q.1)
