use Rattle.std.proofs.lemmas.Result.{err_from_is_err_and}
use borrow.Enum.Refused.{opened as one_of}
use mathlib.Core.Path.{refl, sym, ◌∙◌}
use native.Mathlib.Omega.{arith}
use Rattle.domain_terms.proofs.Signatures.{functions_signed}
use Rattle.domain_due.proofs.Dues.{ahead_done, ahead_refused}
use Rattle.domain_terms.proofs.Kept.{found_below}
use Rattle.domain_terms.proofs.Wanted.{room_refused}
use Rattle.domain_effects.proofs.Facts.{opened}
use Rattle.domain_effects.proofs.Changing.{target_unopened, target_unnamed, target_missing, target_stored, room_from}
use Rattle.domain_rows.specs.Layout.{variables_at}
use Rattle.domain_effects.proofs.singles.target_at.Goals as goal

pub returns-in_err-next : goal.returns-in_err-next
returns-in_err-next c = let p = err_from_is_err_and c.from_residual.result c.from_residual.ensures.1 in rw (p.1, p.2, ← c.in_err-next.was) ((λ x h. target_unopened _ _ x _ _ _ _ _ c.opening.ensures.0 _ _ _ c.in_err-next.was, ahead_refused _ _ _ _ _ c.in_err-next.was, room_refused _ _ _ _ _ c.in_err-next.was))

pub overflow_sub-d : goal.overflow_sub-d
overflow_sub-d c = (opened _ _ _ _ _ (sym c.opening.ensures.0 ∙ c.in_ok-next.was))

pub any_name-requires : goal.any_name-requires
any_name-requires c = let w = ahead_done _ _ _ _ _ c.in_ok-next.was c.opening.ensures.1 in w.1

pub returns-in_err-e : goal.returns-in_err-e
returns-in_err-e c = let p = err_from_is_err_and c.from_residual-in_err-e.result c.from_residual-in_err-e.ensures.1 in rw (p.1, p.2, ← c.in_err-e.was) ((λ x h. target_unnamed _ _ x _ _ _ _ _ c.opening.ensures.0 _ _ c.in_ok-next.was _ c.any_name.ensures.0 _ _ _ c.in_err-e.was, ahead_refused _ _ _ _ _ c.in_err-e.was, room_refused _ _ _ _ _ c.in_err-e.was))

pub returns-in_default : goal.returns-in_default
returns-in_default c = (λ x h. target_missing _ _ x _ _ _ _ _ c.opening.ensures.0 _ _ c.in_ok-next.was _ c.any_name.ensures.0 _ _ c.in_ok-e.was _ (sym (rw c.part_of.ensures at (c.find_in-f.ensures 16 x.functions h.functions)) ∙ c.in_default.is), ahead_refused _ _ 8 _ _ refl, room_refused _ _ 8 _ _ refl)

pub overflow_sub-d-2 : goal.overflow_sub-d-2
overflow_sub-d-2 c = (opened _ _ _ _ _ (sym c.opening.ensures.0 ∙ c.in_ok-next.was))

pub reference_at-requires : goal.reference_at-requires
reference_at-requires c = let w = ahead_done _ _ _ _ _ c.in_ok-next.was c.opening.ensures.1 in let v = ahead_done _ _ _ _ _ c.in_ok-e.was c.any_name.ensures.1 in let x = c.requires.1.0 in let h = c.requires.1.1 in (v.1, c.requires.1, functions_signed _ _ x h, omega (arith, found_below x.functions _ _ (sym (rw c.part_of.ensures at (c.find_in-f.ensures 16 x.functions h.functions)) ∙ c.in-Some.is), h.functions.count), c.requires.2, omega (arith, w.0, v.0, v.1, c.requires.3))

pub returns : goal.returns
returns c = let w = ahead_done _ _ _ _ _ c.in_ok-next.was c.opening.ensures.1 in let v = ahead_done _ _ _ _ _ c.in_ok-e.was c.any_name.ensures.1 in let z = room_from c.reference_at.result _ _ _ c.args.from (omega (arith, w.0, v.0)) c.reference_at.ensures.1 c.reference_at.ensures.2 in (λ x h. target_stored c.args.text.now c.args.d x c.args.from c.args.tag c.args.code.now c.args.used c.opening.result c.opening.ensures.0 _ _ c.in_ok-next.was c.any_name.result c.any_name.ensures.0 _ _ c.in_ok-e.was _ c.reference_at.result _ (sym (rw c.part_of.ensures at (c.find_in-f.ensures 16 x.functions h.functions)) ∙ c.in-Some.is) (c.reference_at.ensures.0 x 16 variables_at x.functions h h.functions h.numbers), z.0, z.1)
