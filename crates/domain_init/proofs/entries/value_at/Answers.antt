use Rattle.std.specs.Prelude.{Err}
use Rattle.std.proofs.lemmas.Result.{err_from_is_err_and}
use borrow.Enum.Refused.{opened}
use mathlib.Core.Path.{ap, sym, ◌∙◌}
use native.Mathlib.Omega.{arith}
use mir.Syntax.{w64}
use mir.ValLaws.{to_z-of_z}
use Rattle.domain_due.proofs.Dues.{ahead_done, ahead_refused, ahead_by}
use Rattle.domain_init.proofs.Ways.{number_in_lem, value_else, value_open, value_done}
use Rattle.domain_init.proofs.entries.value_at.Goals as goal

pub returns-in_default : goal.returns-in_default
returns-in_default c = (λ y fs st. value_else _ y _ _ fs _ _ _ c.token_at-t.ensures (opened c.in_default.in_default-own.keys2) (ap Err c.not_due.ensures), ahead_refused _ _ _ _ _ (ap Err c.not_due.ensures))

pub closing-requires : goal.closing-requires
closing-requires c = (number_in_lem _ _ _ _ _ c.requires (sym c.token_at-t.ensures ∙ c.in-Number.is)).1

pub returns-in_err-after : goal.returns-in_err-after
returns-in_err-after c = let p = err_from_is_err_and c.from_residual.result c.from_residual.ensures.1 in rw (p.1, p.2, ← c.in_err-after.was) ((λ y fs st. value_open _ y _ _ fs c.in-Number.z _ _ (sym c.token_at-t.ensures ∙ c.in-Number.is) _ c.closing.ensures.0 _ _ _ c.in_err-after.was, ahead_refused _ _ _ _ _ c.in_err-after.was))

pub returns : goal.returns
returns c = (λ y fs st. value_done _ y _ _ fs c.in-Number.z _ _ (sym c.token_at-t.ensures ∙ c.in-Number.is) _ c.closing.ensures.0 _ _ _ _ c.in_ok-after.was (rw (to_z-of_z w64 c.in-Number.z (record { sfits = c.in-Number.known_told-1-own.given.0.1 })) at c.put.ensures) st, let u = number_in_lem _ _ _ _ _ c.requires (sym c.token_at-t.ensures ∙ c.in-Number.is) in let w = ahead_done _ _ _ _ _ c.in_ok-after.was c.closing.ensures.1 in ahead_by _ _ _ _ (omega (arith, u.0, w.0)) w.1)
