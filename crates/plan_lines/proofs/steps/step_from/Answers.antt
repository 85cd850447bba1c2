use Rattle.std.proofs.lemmas.Result.{err_from_is_err_and}
use mathlib.Core.Path.{refl, sym, ap, ◌∙◌}
use mathlib.Core.Bool.{Bool}
use native.Mathlib.Omega.{arith}
use Rattle.plan_lines.specs.Knowing.{known_in}
use Rattle.plan_lines.specs.Reading.{span_answer, lasting_read}
use Rattle.plan_lines.proofs.Objects.{action_below}
use Rattle.plan_lines.proofs.Acts.{amount_done, stepped_refused, start_refused, step_started, colon_refused, opening_refused, name_refused, objects_refused, lasting_refused, act_stepped}
use Rattle.plan_lines.proofs.steps.step_from.Goals as goal

pub returns-in_err-next : goal.returns-in_err-next
returns-in_err-next c = let p = err_from_is_err_and c.from_residual.result c.from_residual.ensures.1 in rw (p.1, p.2) (stepped_refused _ _ _ _ (start_refused _ (known_in _ _ _ _ _) _ _ _ _ _ (sym c.start_at.ensures.0 ∙ c.in_err-next.was)))

pub returns-in_err-colon : goal.returns-in_err-colon
returns-in_err-colon c = let p = err_from_is_err_and c.from_residual-in_err-colon.result c.from_residual-in_err-colon.ensures.1 in rw (p.1, p.2) (stepped_refused _ _ _ _ (step_started _ (known_in _ _ _ _ _) _ _ _ _ _ (sym c.start_at.ensures.0 ∙ c.in_ok-next.was) ∙ colon_refused _ (known_in _ _ _ _ _) _ _ _ _ _ (sym c.mark_due.ensures ∙ c.in_err-colon.was)))

pub returns-in_err-open : goal.returns-in_err-open
returns-in_err-open c = let p = err_from_is_err_and c.from_residual-in_err-open.result c.from_residual-in_err-open.ensures.1 in rw (p.1, p.2) (stepped_refused _ _ _ _ (step_started _ (known_in _ _ _ _ _) _ _ _ _ _ (sym c.start_at.ensures.0 ∙ c.in_ok-next.was) ∙ opening_refused _ (known_in _ _ _ _ _) _ _ _ _ _ (sym c.mark_due.ensures ∙ c.in_ok-colon.was) _ _ (sym c.opening_due.ensures ∙ c.in_err-open.was)))

pub returns-in_err-named : goal.returns-in_err-named
returns-in_err-named c = let p = err_from_is_err_and c.from_residual-in_err-named.result c.from_residual-in_err-named.ensures.1 in rw (p.1, p.2) (stepped_refused _ _ _ _ (step_started _ (known_in _ _ _ _ _) _ _ _ _ _ (sym c.start_at.ensures.0 ∙ c.in_ok-next.was) ∙ name_refused _ _ _ _ _ _ _ _ _ _ _ (sym c.mark_due.ensures ∙ c.in_ok-colon.was) _ _ (sym c.opening_due.ensures ∙ c.in_ok-open.was) _ _ (sym c.action_at.ensures ∙ c.in_err-named.was)))

pub returns-in_err-given : goal.returns-in_err-given
returns-in_err-given c = let p = err_from_is_err_and c.from_residual-in_err-given.result c.from_residual-in_err-given.ensures.1 in rw (p.1, p.2) (stepped_refused _ _ _ _ (step_started _ (known_in _ _ _ _ _) _ _ _ _ _ (sym c.start_at.ensures.0 ∙ c.in_ok-next.was) ∙ objects_refused _ _ _ _ _ _ _ _ _ _ _ (sym c.mark_due.ensures ∙ c.in_ok-colon.was) _ _ (sym c.opening_due.ensures ∙ c.in_ok-open.was) _ _ (sym c.action_at.ensures ∙ c.in_ok-named.was) _ _ _ c.objects_at.ensures _ _ c.in_err-given.was))

pub is_lasting-requires : goal.is_lasting-requires
is_lasting-requires c = omega (arith, action_below _ _ _ _ _ _ (sym c.action_at.ensures ∙ c.in_ok-named.was), c.requires.1.1)

pub returns-in_err-duration : goal.returns-in_err-duration
returns-in_err-duration c = let p = err_from_is_err_and c.from_residual-in_err-duration.result c.from_residual-in_err-duration.ensures.1 in rw (p.1, p.2) (stepped_refused _ _ _ _ (step_started _ (known_in _ _ _ _ _) _ _ _ _ _ (sym c.start_at.ensures.0 ∙ c.in_ok-next.was) ∙ lasting_refused _ _ _ _ _ _ _ _ _ _ _ (sym c.mark_due.ensures ∙ c.in_ok-colon.was) _ _ (sym c.opening_due.ensures ∙ c.in_ok-open.was) _ _ (sym c.action_at.ensures ∙ c.in_ok-named.was) _ _ _ c.objects_at.ensures _ _ c.in_ok-given.was _ _ (sym (c.span_at.ensures.0 ∙ ap (λ (b : Bool). span_answer (lasting_read c.args.text.now b c.in_ok-given.given)) c.is_lasting.ensures) ∙ c.in_err-duration.was)))

pub returns : goal.returns
returns c = rw (step_started _ (known_in _ _ _ _ _) _ _ _ _ _ (sym c.start_at.ensures.0 ∙ c.in_ok-next.was)) (act_stepped _ _ _ _ _ _ _ _ _ _ _ (sym c.mark_due.ensures ∙ c.in_ok-colon.was) _ _ (sym c.opening_due.ensures ∙ c.in_ok-open.was) _ _ (sym c.action_at.ensures ∙ c.in_ok-named.was) _ _ _ c.objects_at.ensures _ _ c.in_ok-given.was _ _ (sym (c.span_at.ensures.0 ∙ ap (λ (b : Bool). span_answer (lasting_read c.args.text.now b c.in_ok-given.given)) c.is_lasting.ensures) ∙ c.in_ok-duration.was) refl (amount_done _ _ _ c.in_ok-next.was c.start_at.ensures.1) (amount_done _ _ _ c.in_ok-duration.was c.span_at.ensures.1))
