use Rattle.std.proofs.lemmas.Result.{err_from_is_err_and}
use Rattle.domain_due.proofs.Dues.{ahead_done, ahead_refused, ahead_by}
use Rattle.domain_init.proofs.Ways.{functions_listed, target_shut, target_nameless, target_refused, target_twice, target_once}
use mathlib.Core.Path.{refl, sym, ◌∙◌}
use native.Mathlib.Omega.{arith}
use Rattle.domain_init.proofs.entries.target_at.Goals as goal

pub returns-in_err-inside : goal.returns-in_err-inside
returns-in_err-inside c = let p = err_from_is_err_and c.from_residual.result c.from_residual.ensures.1 in rw (p.1, p.2, ← c.in_err-inside.was) ((λ x y fs k o f st. target_shut _ x y _ _ c.opening.ensures.0 _ _ c.in_err-inside.was, ahead_refused _ _ _ _ _ c.in_err-inside.was))

pub any_name-requires : goal.any_name-requires
any_name-requires c = (ahead_done _ _ _ _ _ c.in_ok-inside.was c.opening.ensures.1).1

pub returns-in_err-e : goal.returns-in_err-e
returns-in_err-e c = let p = err_from_is_err_and c.from_residual-in_err-e.result c.from_residual-in_err-e.ensures.1 in rw (p.1, p.2, ← c.in_err-e.was) ((λ x y fs k o f st. target_nameless _ x y _ _ c.opening.ensures.0 _ _ c.in_ok-inside.was _ c.any_name.ensures.0 _ _ c.in_err-e.was, ahead_refused _ _ _ _ _ c.in_err-e.was))

pub ground_at-requires : goal.ground_at-requires
ground_at-requires c = ((ahead_done _ _ _ _ _ c.in_ok-e.was c.any_name.ensures.1).1, c.requires.1, functions_listed _ _ c.requires.1.0 c.requires.1.1)

pub returns-in_err-after : goal.returns-in_err-after
returns-in_err-after c = let p = err_from_is_err_and c.from_residual-in_err-after.result c.from_residual-in_err-after.ensures.1 in rw (p.1, p.2, ← c.in_err-after.was) ((λ x y fs k o f st. target_refused _ x y _ _ c.opening.ensures.0 _ _ c.in_ok-inside.was _ c.any_name.ensures.0 _ _ c.in_ok-e.was _ (c.ground_at.ensures.0 x 16 x.functions k o k.functions k.numbers) _ _ c.in_err-after.was, ahead_refused _ _ _ _ _ c.in_err-after.was))

pub returns-then-is_defined : goal.returns-then-is_defined
returns-then-is_defined c = (λ x y fs k o f st. target_twice _ x y _ _ c.opening.ensures.0 _ _ c.in_ok-inside.was _ c.any_name.ensures.0 _ _ c.in_ok-e.was _ (c.ground_at.ensures.0 x 16 x.functions k o k.functions k.numbers) _ _ c.in_ok-after.was fs _ st o _ _ k f (sym c.is_defined.ensures ∙ c.if-is_defined.true), ahead_refused _ _ 7 _ _ refl)

pub returns : goal.returns
returns c = (λ x y fs k o f st. target_once _ x y _ _ c.opening.ensures.0 _ _ c.in_ok-inside.was _ c.any_name.ensures.0 _ _ c.in_ok-e.was _ (c.ground_at.ensures.0 x 16 x.functions k o k.functions k.numbers) _ _ c.in_ok-after.was fs _ st o _ _ k f (sym c.is_defined.ensures ∙ c.if-is_defined.false), let u = ahead_done _ _ _ _ _ c.in_ok-inside.was c.opening.ensures.1 in let v = ahead_done _ _ _ _ _ c.in_ok-e.was c.any_name.ensures.1 in let g = ahead_done _ _ _ _ _ c.in_ok-after.was c.ground_at.ensures.1 in ahead_by _ _ _ _ (omega (arith, u.0, v.0, g.0)) g.1)
