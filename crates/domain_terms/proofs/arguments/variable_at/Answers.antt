use borrow.Author.Tests.{not-true, not-false}
use mathlib.Core.Path.{refl, sym, ◌∙◌}
use native.Mathlib.Omega.{arith}
use Prim.Native.Nat.{◌+◌}
use Rattle.domain_terms.proofs.Givens.{cell_done, cell_refused, variable_out, variable_found, variable_missing}
use Rattle.domain_terms.proofs.Kept.{found_below}
use Rattle.domain_terms.proofs.arguments.variable_at.Goals as goal

pub returns-then-not-counts : goal.returns-then-not-counts
returns-then-not-counts c = (λ x h. variable_out _ x _ _ (sym h.action ∙ not-true _ c.if-not-counts.true), cell_refused 3 c.args.p _ refl)

pub returns-in_default : goal.returns-in_default
returns-in_default c = (λ x h. variable_missing _ x _ _ (sym h.action ∙ not-false _ c.if-not-counts.false) (sym (rw c.part_of-name.ensures at (c.find_in.ensures _ x.variables h.variables)) ∙ c.in_default.is), cell_refused 8 c.args.p _ refl)

pub overflow_add-result : goal.overflow_add-result
overflow_add-result c = let h = c.requires.0.1 in let x = c.requires.0.0 in omega (arith, found_below x.variables _ c.in-Some.i (sym (rw c.part_of-name.ensures at (c.find_in.ensures _ x.variables h.variables)) ∙ c.in-Some.is), h.variables.fits, h.variables.count)

pub returns : goal.returns
returns c = (λ x h. variable_found _ x _ _ c.in-Some.i (sym h.action ∙ not-false _ c.if-not-counts.false) (sym (rw c.part_of-name.ensures at (c.find_in.ensures _ x.variables h.variables)) ∙ c.in-Some.is), let h = c.requires.0.1 in let x = c.requires.0.0 in cell_done _ (64 + c.in-Some.i) (omega (arith, found_below x.variables _ c.in-Some.i (sym (rw c.part_of-name.ensures at (c.find_in.ensures _ x.variables h.variables)) ∙ c.in-Some.is), h.variables.fits, h.variables.count)))
