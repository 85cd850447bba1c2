use Rattle.std.proofs.lemmas.Result.{err_from_is_err_and}
use Rattle.domain_meaning.specs.Due.{closing}
use mathlib.Core.Path.{refl, sym, ap, ◌∙◌}
use mathlib.Core.Bool.{cond}
use Prim.Native.Nat.{ℕ, ◌+◌}
use native.Mathlib.Omega.{arith}
use Rattle.domain_due.proofs.Dues.{ahead_done}
use Rattle.domain_expressions.proofs.Ends.{spent_refused}
use Rattle.domain_conditions.specs.Begins.{comparison_of}
use Rattle.domain_conditions.proofs.Comparing.{comparison_cell_lem, over_at, comparison_first, comparison_second, comparison_done}
use Rattle.domain_conditions.proofs.Places.{spent_closed}
use Rattle.domain_conditions.proofs.singles.comparison_at.Goals as goal

pub returns-in_err-mid : goal.returns-in_err-mid
returns-in_err-mid c = let e = err_from_is_err_and c.from_residual.result c.from_residual.ensures.1 in rw (e.1, e.2) (λ x h. comparison_first c.args.text.now c.args.d x c.args.yes (comparison_of c.args.k) c.args.left c.args.from c.args.code.now c.args.used (c.chosen.result + c.args.k) (ap (λ (z : ℕ). z + c.args.k) c.chosen.ensures ∙ ap (λ (z : ℕ). cond c.args.yes 12 17 + z) (sym (comparison_cell_lem c.args.k c.requires.3))) c.expression_at.result _ (rw c.put.ensures at (c.expression_at.ensures.0 x h)) _ _ c.in_err-mid.was, spent_refused _ _ _ _ _ _ _ refl)

pub expression_at-requires-2 : goal.expression_at-requires-2
expression_at-requires-2 c = let a₁ = ahead_done _ _ _ _ _ c.in_ok-mid.was c.expression_at.ensures.1 in let o₁ = over_at _ _ _ _ _ c.in_ok-mid.was c.expression_at.ensures.2 in (a₁.1, c.requires.1, omega (arith, a₁.0, o₁.1, c.requires.2))

pub returns-in_err-end : goal.returns-in_err-end
returns-in_err-end c = let e = err_from_is_err_and c.from_residual-in_err-end.result c.from_residual-in_err-end.ensures.1 in rw (e.1, e.2) (λ x h. comparison_second c.args.text.now c.args.d x c.args.yes (comparison_of c.args.k) c.args.left c.args.from c.args.code.now c.args.used (c.chosen.result + c.args.k) (ap (λ (z : ℕ). z + c.args.k) c.chosen.ensures ∙ ap (λ (z : ℕ). cond c.args.yes 12 17 + z) (sym (comparison_cell_lem c.args.k c.requires.3))) c.expression_at.result _ (rw c.put.ensures at (c.expression_at.ensures.0 x h)) _ _ c.in_ok-mid.was c.expression_at-2.result _ (c.expression_at-2.ensures.0 x h) _ _ c.in_err-end.was, spent_refused _ _ _ _ _ _ _ refl)

pub closed_at-requires : goal.closed_at-requires
closed_at-requires c = let a₂ = ahead_done _ _ _ _ _ c.in_ok-end.was c.expression_at-2.ensures.1 in let o₂ = over_at _ _ _ _ _ c.in_ok-end.was c.expression_at-2.ensures.2 in a₂.1

pub returns : goal.returns
returns c = let a₁ = ahead_done _ _ _ _ _ c.in_ok-mid.was c.expression_at.ensures.1 in let o₁ = over_at _ _ _ _ _ c.in_ok-mid.was c.expression_at.ensures.2 in let a₂ = ahead_done _ _ _ _ _ c.in_ok-end.was c.expression_at-2.ensures.1 in let o₂ = over_at _ _ _ _ _ c.in_ok-end.was c.expression_at-2.ensures.2 in (λ x h. comparison_done c.args.text.now c.args.d x c.args.yes (comparison_of c.args.k) c.args.left c.args.from c.args.code.now c.args.used (c.chosen.result + c.args.k) (ap (λ (z : ℕ). z + c.args.k) c.chosen.ensures ∙ ap (λ (z : ℕ). cond c.args.yes 12 17 + z) (sym (comparison_cell_lem c.args.k c.requires.3))) c.expression_at.result _ (rw c.put.ensures at (c.expression_at.ensures.0 x h)) _ _ c.in_ok-mid.was c.expression_at-2.result _ (c.expression_at-2.ensures.0 x h) _ _ c.closed_at.result c.in_ok-end.was c.closed_at.ensures.0, spent_closed c.closed_at.result (closing c.args.text.now c.args.d c.in_ok-end.end) 2 _ _ _ c.args.left _ _ c.closed_at.ensures.0 (omega (arith, a₁.0, a₂.0)) (omega (arith, o₁.0, o₂.0)) (omega (arith, o₁.1, o₂.1)) c.closed_at.ensures.1)
