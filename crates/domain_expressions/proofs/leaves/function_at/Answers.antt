use Rattle.std.proofs.lemmas.Result.{err_from_is_err_and}
use Prim.Native.Nat.{◌-◌}
use mathlib.Core.Path.{refl, sym, ◌∙◌}
use native.Mathlib.Omega.{arith}
use Rattle.domain_terms.proofs.Signatures.{functions_signed}
use Rattle.domain_expressions.specs.Codes.{cells_of}
use Rattle.domain_expressions.proofs.Ends.{written_refused, spent_refused, spent_passed, function_missing, function_many, function_written}
use Rattle.domain_terms.proofs.Kept.{found_below}
use Rattle.domain_rows.specs.Layout.{variables_at}
use Rattle.domain_expressions.proofs.leaves.function_at.Goals as goal

pub returns-in_default : goal.returns-in_default
returns-in_default c = (λ x h. written_refused cells_of _ _ _ _ _ 8 _ (function_missing _ _ x _ _ c.args.left (sym (rw c.part_of-name.ensures at (c.find_in.ensures 16 x.functions h.functions)) ∙ c.in_default.is)) refl, spent_refused _ _ _ _ _ 8 _ refl)

pub returns-then-left-eq0 : goal.returns-then-left-eq0
returns-then-left-eq0 c = (λ x h. written_refused cells_of _ _ _ _ _ 12 _ (function_many _ _ x _ _ c.args.left _ (sym (rw c.part_of-name.ensures at (c.find_in.ensures 16 x.functions h.functions)) ∙ c.in-Some.is) c.if-left-eq0.true) refl, spent_refused _ _ _ _ _ 12 _ refl)

pub reference_at-requires : goal.reference_at-requires
reference_at-requires c = let x = c.requires.1.0 in let h = c.requires.1.1 in (c.requires.0, c.requires.1, functions_signed _ _ x h, omega (arith, found_below x.functions _ _ (sym (rw c.part_of-name.ensures at (c.find_in.ensures 16 x.functions h.functions)) ∙ c.in-Some.is), h.functions.count), omega arith, c.requires.2)

pub returns-in_err-end : goal.returns-in_err-end
returns-in_err-end c = let e = err_from_is_err_and c.from_residual.result c.from_residual.ensures.1 in rw (e.1, e.2) (λ x h. rw c.in_err-end.was at (function_written _ _ x _ _ c.args.left _ _ _ _ _ (sym (rw c.part_of-name.ensures at (c.find_in.ensures 16 x.functions h.functions)) ∙ c.in-Some.is) c.if-left-eq0.false (c.reference_at.ensures.0 x 16 variables_at x.functions h h.functions h.numbers)), spent_refused _ _ _ _ _ _ _ refl)

pub returns : goal.returns
returns c = (λ x h. rw c.in_ok-end.was at (function_written _ _ x _ _ c.args.left _ _ _ _ _ (sym (rw c.part_of-name.ensures at (c.find_in.ensures 16 x.functions h.functions)) ∙ c.in-Some.is) c.if-left-eq0.false (c.reference_at.ensures.0 x 16 variables_at x.functions h h.functions h.numbers)), rw c.in_ok-end.was at (spent_passed c.reference_at.result _ _ _ (c.args.left - 1) c.reference_at.ensures.1 c.reference_at.ensures.2))
