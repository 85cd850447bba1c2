use Rattle.std.proofs.lemmas.Result.{err_from_is_err_and}
use Rattle.std.specs.Prelude.{Err}
use borrow.Enum.Refused.{opened}
use mathlib.Core.Path.{sym, ap, ◌∙◌}
use mir.Syntax.{w64}
use mir.ValLaws.{to_z-of_z}
use Rattle.plan_lines.proofs.Plain.{plan_small, plain_at}
use Rattle.plan_lines.proofs.Lasts.{duration_else, duration_zero, duration_open, duration_on, duration_read}
use Rattle.plan_lines.proofs.reading.duration_at.Goals as goal

pub returns-in_default : goal.returns-in_default
returns-in_default c = duration_else _ _ _ _ c.plan_token_at-t.ensures (opened c.in_default.in_default-own.keys2) (ap Err c.not_due.ensures)

pub amount_of-d-requires : goal.amount_of-d-requires
amount_of-d-requires c = rw (to_z-of_z w64 c.in-Number.z (record { sfits = c.in-Number.known_told-1-own.given.0.1 })) (plain_at _ _ _ _ (sym c.plan_token_at-t.ensures ∙ c.in-Number.is) (plan_small _ _))

pub returns-then-d-eq0 : goal.returns-then-d-eq0
returns-then-d-eq0 c = duration_zero _ _ _ _ _ _ (sym c.plan_token_at-t.ensures ∙ c.in-Number.is) (rw (to_z-of_z w64 c.in-Number.z (record { sfits = c.in-Number.known_told-1-own.given.0.1 })) at c.amount_of-d.ensures.0) c.if-d-eq0.true

pub returns-in_err-after : goal.returns-in_err-after
returns-in_err-after c = let p = err_from_is_err_and c.from_residual.result c.from_residual.ensures.1 in rw (p.1, p.2) (duration_open _ _ _ _ _ _ (sym c.plan_token_at-t.ensures ∙ c.in-Number.is) (rw (to_z-of_z w64 c.in-Number.z (record { sfits = c.in-Number.known_told-1-own.given.0.1 })) at c.amount_of-d.ensures.0) c.if-d-eq0.false _ _ (sym c.mark_due.ensures ∙ c.in_err-after.was))

pub returns-in_err-end : goal.returns-in_err-end
returns-in_err-end c = let p = err_from_is_err_and c.from_residual-in_err-end.result c.from_residual-in_err-end.ensures.1 in rw (p.1, p.2) (duration_on _ _ _ _ _ _ (sym c.plan_token_at-t.ensures ∙ c.in-Number.is) (rw (to_z-of_z w64 c.in-Number.z (record { sfits = c.in-Number.known_told-1-own.given.0.1 })) at c.amount_of-d.ensures.0) c.if-d-eq0.false _ _ (sym c.mark_due.ensures ∙ c.in_ok-after.was) _ _ (sym c.end_due.ensures ∙ c.in_err-end.was))

pub returns : goal.returns
returns c = duration_read _ _ _ _ _ _ (sym c.plan_token_at-t.ensures ∙ c.in-Number.is) (rw (to_z-of_z w64 c.in-Number.z (record { sfits = c.in-Number.known_told-1-own.given.0.1 })) at c.amount_of-d.ensures.0) c.if-d-eq0.false _ _ (sym c.mark_due.ensures ∙ c.in_ok-after.was) _ _ (sym c.end_due.ensures ∙ c.in_ok-end.was) c.amount_of-d.ensures.1
