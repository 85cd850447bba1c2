use Rattle.std.proofs.lemmas.Result.{err_from_is_err_and}
use Prim.Native.Nat.{◌-◌}
use mathlib.Core.Path.{refl, sym, ◌∙◌}
use native.Mathlib.Omega.{arith}
use Rattle.domain_terms.proofs.Signatures.{predicates_signed}
use Rattle.domain_terms.proofs.Kept.{found_below}
use Rattle.domain_expressions.proofs.Ends.{written_refused, spent_refused, spent_passed}
use Rattle.domain_stored_meaning.specs.Cells.{cond_cells}
use Rattle.domain_conditions.proofs.Facts.{fact_missing, fact_many, fact_written, fact_tag}
use Rattle.domain_rows.specs.Layout.{functions_at}
use Rattle.domain_conditions.proofs.singles.atom_at.Goals as goal

pub returns-in_default : goal.returns-in_default
returns-in_default c = (λ x h. written_refused cond_cells _ _ _ _ _ 8 _ (fact_missing _ _ x _ _ _ c.args.left (sym (rw c.part_of-name.ensures at (c.find_in.ensures 32 x.predicates h.predicates)) ∙ c.in_default.is)) refl, spent_refused _ _ _ _ _ 8 _ refl)

pub returns-then-left-eq0 : goal.returns-then-left-eq0
returns-then-left-eq0 c = (λ x h. written_refused cond_cells _ _ _ _ _ 12 _ (fact_many _ _ x _ _ _ c.args.left _ (sym (rw c.part_of-name.ensures at (c.find_in.ensures 32 x.predicates h.predicates)) ∙ c.in-Some.is) c.if-left-eq0.true) refl, spent_refused _ _ _ _ _ 12 _ refl)

pub reference_at-requires : goal.reference_at-requires
reference_at-requires c = let x = c.requires.1.0 in let h = c.requires.1.1 in (c.requires.0, c.requires.1, predicates_signed _ _ x h, omega (arith, found_below x.predicates _ _ (sym (rw c.part_of-name.ensures at (c.find_in.ensures 32 x.predicates h.predicates)) ∙ c.in-Some.is), h.predicates.count), rw c.chosen-tag.ensures (fact_tag c.args.yes), c.requires.2)

pub returns-in_err-end : goal.returns-in_err-end
returns-in_err-end c = let e = err_from_is_err_and c.from_residual.result c.from_residual.ensures.1 in rw (e.1, e.2) (λ x h. rw c.in_err-end.was at (fact_written c.args.text.now c.args.d x c.args.yes c.args.p c.args.e c.args.left _ c.args.code.now c.args.used c.reference_at.result _ (sym (rw c.part_of-name.ensures at (c.find_in.ensures 32 x.predicates h.predicates)) ∙ c.in-Some.is) c.if-left-eq0.false (rw c.chosen-tag.ensures at (c.reference_at.ensures.0 x 32 functions_at x.predicates h h.predicates h.facts))), spent_refused _ _ _ _ _ _ _ refl)

pub returns : goal.returns
returns c = (λ x h. rw c.in_ok-end.was at (fact_written c.args.text.now c.args.d x c.args.yes c.args.p c.args.e c.args.left _ c.args.code.now c.args.used c.reference_at.result _ (sym (rw c.part_of-name.ensures at (c.find_in.ensures 32 x.predicates h.predicates)) ∙ c.in-Some.is) c.if-left-eq0.false (rw c.chosen-tag.ensures at (c.reference_at.ensures.0 x 32 functions_at x.predicates h h.predicates h.facts))), rw c.in_ok-end.was at (spent_passed c.reference_at.result _ _ _ (c.args.left - 1) c.reference_at.ensures.1 c.reference_at.ensures.2))
