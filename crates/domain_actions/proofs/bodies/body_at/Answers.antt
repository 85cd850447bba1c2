use Rattle.std.proofs.lemmas.Result.{err_from_is_err_and}
use mathlib.Core.Path.{sym, ◌∙◌}
use native.Mathlib.Omega.{arith}
use Rattle.domain_meaning.specs.Due.{closing}
use Rattle.domain_due.proofs.Dues.{answer_done, answer_refused, ahead_done}
use Rattle.domain_actions.proofs.Resting.{reached_at, onwards_at, ended_by, ended_refused, rest_rule, rest_condition, rest_effect, rest_open, rest_done}
use Rattle.domain_actions.proofs.bodies.body_at.Goals as goal

pub returns-in_err-behind : goal.returns-in_err-behind
returns-in_err-behind c = let p = err_from_is_err_and c.from_residual.result c.from_residual.ensures.1 in rw (p.1, p.2, ← c.in_err-behind.was) ((λ x e h. rest_rule _ x e _ _ _ _ _ _ _ _ (c.lasting_at.ensures.0 x h) _ _ _ c.in_err-behind.was, ended_refused _ _ _ _ _ _ _ c.in_err-behind.was))

pub conditions_field-requires : goal.conditions_field-requires
conditions_field-requires c = let a = reached_at _ _ _ _ _ _ c.in_ok-behind.was c.lasting_at.ensures.1 in (a.1, c.requires.1, omega (arith, a.0, a.1, a.3, c.requires.2))

pub returns-in_err-after : goal.returns-in_err-after
returns-in_err-after c = let p = err_from_is_err_and c.from_residual-in_err-after.result c.from_residual-in_err-after.ensures.1 in rw (p.1, p.2, ← c.in_err-after.was) ((λ x e h. rest_condition _ x e _ _ _ _ _ _ _ _ (c.lasting_at.ensures.0 x h) _ _ c.in_ok-behind.was _ _ (c.conditions_field.ensures.0 x h) _ _ _ c.in_err-after.was, ended_refused _ _ _ _ _ _ _ c.in_err-after.was))

pub effects_field-requires : goal.effects_field-requires
effects_field-requires c = let a = reached_at _ _ _ _ _ _ c.in_ok-behind.was c.lasting_at.ensures.1 in let b = onwards_at _ _ _ _ _ _ c.in_ok-after.was c.conditions_field.ensures.1 in (b.1, c.requires.1, omega (arith, a.0, a.1, a.3, b.0, b.1, b.3, c.requires.2))

pub returns-in_err-last : goal.returns-in_err-last
returns-in_err-last c = let p = err_from_is_err_and c.from_residual-in_err-last.result c.from_residual-in_err-last.ensures.1 in rw (p.1, p.2, ← c.in_err-last.was) ((λ x e h. rest_effect _ x e _ _ _ _ _ _ _ _ (c.lasting_at.ensures.0 x h) _ _ c.in_ok-behind.was _ _ (c.conditions_field.ensures.0 x h) _ _ c.in_ok-after.was _ _ (c.effects_field.ensures.0 x h) _ _ _ c.in_err-last.was, ended_refused _ _ _ _ _ _ _ c.in_err-last.was))

pub closing-requires : goal.closing-requires
closing-requires c = let d = onwards_at _ _ _ _ _ _ c.in_ok-last.was c.effects_field.ensures.1 in d.1

pub returns-in_err-end : goal.returns-in_err-end
returns-in_err-end c = let p = err_from_is_err_and c.from_residual-in_err-end.result c.from_residual-in_err-end.ensures.1 in rw (p.1, p.2, ← c.in_err-end.was) ((λ x e h. rest_open _ x e _ _ _ _ _ _ _ _ (c.lasting_at.ensures.0 x h) _ _ c.in_ok-behind.was _ _ (c.conditions_field.ensures.0 x h) _ _ c.in_ok-after.was _ _ (c.effects_field.ensures.0 x h) _ _ c.in_ok-last.was _ _ _ _ (answer_refused (closing _ 14 _) _ _ (sym c.closing.ensures.0 ∙ c.in_err-end.was)) c.in_err-end.was, ended_refused _ _ _ _ _ _ _ c.in_err-end.was))

pub mark-requires : goal.mark-requires
mark-requires c = c.requires.3

pub shape_of-code : goal.shape_of-code
shape_of-code c = c.code-3-1.given ∙ c.code-2-1.given ∙ c.code-1.given

pub returns : goal.returns
returns c = let a = reached_at _ _ _ _ _ _ c.in_ok-behind.was c.lasting_at.ensures.1 in let b = onwards_at _ _ _ _ _ _ c.in_ok-after.was c.conditions_field.ensures.1 in let d = onwards_at _ _ _ _ _ _ c.in_ok-last.was c.effects_field.ensures.1 in let z = ahead_done _ _ _ _ _ c.in_ok-end.was c.closing.ensures.1 in (λ x e h. rest_done _ x e _ _ _ _ _ _ _ _ (c.lasting_at.ensures.0 x h) _ _ c.in_ok-behind.was _ _ (c.conditions_field.ensures.0 x h) _ _ c.in_ok-after.was _ _ (c.effects_field.ensures.0 x h) _ _ c.in_ok-last.was _ _ _ (answer_done (closing _ 14 _) _ _ (sym c.closing.ensures.0 ∙ c.in_ok-end.was)) c.mark.ensures, ended_by 4 _ _ _ _ _ (omega (arith, a.0, b.0, d.0, z.0)) z.1 (omega (arith, a.2, b.2, d.2)) (omega (arith, a.3, b.3, d.3, z.0)))
