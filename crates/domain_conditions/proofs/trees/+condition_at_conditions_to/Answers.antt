use Rattle.std.proofs.lemmas.Result.{err_from_is_err_and}
use borrow.Enum.Refused.{opened}
use mathlib.Core.Path.{refl, sym, ap, ◌∙◌}
use Rattle.std.specs.Prelude.{Ok}
use mathlib.Core.Bool.{true}
use native.Mathlib.Omega.{arith}
use lib.ListN.{length}
use borrow.Author.Rules.{rules}
use Rattle.domain_meaning.specs.Conditions.{condition}
use Rattle.domain_due.proofs.Dues.{close_in}
use Rattle.domain_expressions.proofs.Ends.{written_refused, spent_refused}
use Rattle.domain_expressions.proofs.Operands.{spent_at}
use Rattle.domain_stored_meaning.specs.Cells.{cond_cells}
use Rattle.domain_conditions.proofs.Places.{and_place, not_place, atom_place, compared_place, spent_behind, spent_done}
use Rattle.domain_conditions.proofs.Whole.{condition_and, condition_not, condition_atom, condition_comparison, condition_refused, conjunction_written}
use Rattle.domain_conditions.proofs.Listing.{onward_end, onward_refused, onward_more}
use Prim.Native.Nat.{◌+◌, ◌-◌}
use Rattle.domain_conditions.proofs.trees.+condition_at_conditions_to.Goals as goal

pub condition_at-overflow_sub-d : goal.condition_at-overflow_sub-d
condition_at-overflow_sub-d t c = let w = and_place _ _ _ _ _ _ (c.in_ok-head.was ∙ ap Ok c.in-And.is) c.begun_at.ensures.1 in omega (arith, w.2)

pub condition_at-conditions_to-requires : goal.condition_at-conditions_to-requires
condition_at-conditions_to-requires t c = let w = and_place _ _ _ _ _ _ (c.in_ok-head.was ∙ ap Ok c.in-And.is) c.begun_at.ensures.1 in (omega (arith, c.decreases, w.0, w.1), (w.1, c.requires.1, omega (arith, w.0, w.1, c.requires.2)))

pub condition_at-overflow_sub-d-in-Not : goal.condition_at-overflow_sub-d-in-Not
condition_at-overflow_sub-d-in-Not t c = let w = not_place _ _ _ _ _ _ (c.in_ok-head.was ∙ ap Ok c.in-Not.is) c.begun_at.ensures.1 in omega (arith, w.2)

pub condition_at-negation_at-requires : goal.condition_at-negation_at-requires
condition_at-negation_at-requires t c = let w = not_place _ _ _ _ _ _ (c.in_ok-head.was ∙ ap Ok c.in-Not.is) c.begun_at.ensures.1 in (w.1, c.requires.1, omega (arith, w.0, w.1, c.requires.2))

pub condition_at-overflow_sub-d-in-Atom : goal.condition_at-overflow_sub-d-in-Atom
condition_at-overflow_sub-d-in-Atom t c = let w = atom_place _ _ _ _ _ _ (c.in_ok-head.was ∙ ap Ok c.in-Atom.is) c.begun_at.ensures.1 in omega (arith, w.2)

pub condition_at-atom_at-requires : goal.condition_at-atom_at-requires
condition_at-atom_at-requires t c = let w = atom_place _ _ _ _ _ _ (c.in_ok-head.was ∙ ap Ok c.in-Atom.is) c.begun_at.ensures.1 in (w.1, c.requires.1, omega (arith, w.0, w.1, c.requires.2))

pub condition_at-overflow_sub-d-in-Compared : goal.condition_at-overflow_sub-d-in-Compared
condition_at-overflow_sub-d-in-Compared t c = let w = compared_place _ _ _ _ _ _ _ (c.in_ok-head.was ∙ ap Ok c.in-Compared.is) c.begun_at.ensures.1 in omega (arith, w.2)

pub condition_at-compared_at-requires : goal.condition_at-compared_at-requires
condition_at-compared_at-requires t c = let w = compared_place _ _ _ _ _ _ _ (c.in_ok-head.was ∙ ap Ok c.in-Compared.is) c.begun_at.ensures.1 in (w.1, c.requires.1, omega (arith, w.0, w.1, c.requires.2), w.3)

pub condition_at-returns-in-And : goal.condition_at-returns-in-And
condition_at-returns-in-And t c = let w = and_place _ _ _ _ _ _ (c.in_ok-head.was ∙ ap Ok c.in-And.is) c.begun_at.ensures.1 in (λ x g. rw (condition_and c.args.text.now c.args.d x c.args.left c.args.from c.begun_at.result (c.begun_at.ensures.0 x true _ _) _ _ (c.in_ok-head.was ∙ ap Ok c.in-And.is)) (conjunction_written c.args.text.now (c.args.d - 1) (condition (c.args.d - 1) c.args.text.now x) c.args.left _ c.args.code.now c.args.used c.conditions_to.result _ (rw c.put.ensures at (c.conditions_to.ensures.0 x (length c.args.text.now + 1) g (omega arith)))), spent_behind c.conditions_to.result 0 _ _ _ _ _ (omega (arith, w.0)) (omega arith) (omega (arith, w.0)) c.conditions_to.ensures.1)

pub condition_at-returns-in-Not : goal.condition_at-returns-in-Not
condition_at-returns-in-Not t c = let w = not_place _ _ _ _ _ _ (c.in_ok-head.was ∙ ap Ok c.in-Not.is) c.begun_at.ensures.1 in (λ x g. rw (condition_not _ _ x c.args.left _ _ (c.begun_at.ensures.0 x true _ _) _ _ (c.in_ok-head.was ∙ ap Ok c.in-Not.is)) (c.negation_at.ensures.0 x g), spent_behind _ 0 _ _ _ _ _ (omega (arith, w.0)) (omega arith) (omega (arith, w.0)) c.negation_at.ensures.1)

pub condition_at-returns-in-Atom : goal.condition_at-returns-in-Atom
condition_at-returns-in-Atom t c = let w = atom_place _ _ _ _ _ _ (c.in_ok-head.was ∙ ap Ok c.in-Atom.is) c.begun_at.ensures.1 in (λ x g. rw (condition_atom _ _ x c.args.left _ _ (c.begun_at.ensures.0 x true _ _) _ _ (c.in_ok-head.was ∙ ap Ok c.in-Atom.is)) (c.atom_at.ensures.0 x g), spent_behind _ 0 _ _ _ _ _ (omega (arith, w.0)) (omega arith) (omega (arith, w.0)) c.atom_at.ensures.1)

pub condition_at-returns-in-Compared : goal.condition_at-returns-in-Compared
condition_at-returns-in-Compared t c = let w = compared_place _ _ _ _ _ _ _ (c.in_ok-head.was ∙ ap Ok c.in-Compared.is) c.begun_at.ensures.1 in (λ x g. rw (condition_comparison _ _ x c.args.left _ _ (c.begun_at.ensures.0 x true _ _) _ _ _ (c.in_ok-head.was ∙ ap Ok c.in-Compared.is)) (c.compared_at.ensures.0 x g), spent_behind _ 2 _ _ _ _ _ (omega (arith, w.0)) (omega arith) (omega (arith, w.0)) c.compared_at.ensures.1)

pub condition_at-returns-in_err-head : goal.condition_at-returns-in_err-head
condition_at-returns-in_err-head t c = let e = err_from_is_err_and c.from_residual.result c.from_residual.ensures.1 in rw (e.1, e.2) (λ x g. written_refused cond_cells _ _ _ _ _ _ _ (condition_refused _ _ x c.args.left _ _ (c.begun_at.ensures.0 x true _ _) _ _ c.in_err-head.was) refl, spent_refused _ _ _ _ _ _ _ refl)

pub conditions_to-returns-in-Close : goal.conditions_to-returns-in-Close
conditions_to-returns-in-Close t c = let w = close_in _ _ c.loop-next.invariant.1 _ _ (sym c.token_at-t.ensures ∙ c.in-Close.is) in (λ x k g q. onward_end _ _ (condition _ _ x) _ _ _ c.args.left _ _ _ _ (c.loop-next.invariant.5 x g) k q _ _ _ (sym c.token_at-t.ensures ∙ c.in-Close.is) c.put.ensures, spent_done _ _ _ _ _ _ (omega (arith, w.0, c.loop-next.invariant.0)) w.1 (omega (arith, c.loop-next.invariant.3)) (omega (arith, w.0, c.loop-next.invariant.4)))

pub conditions_to-returns-in_err-after : goal.conditions_to-returns-in_err-after
conditions_to-returns-in_err-after t c = let e = err_from_is_err_and c.from_residual.result c.from_residual.ensures.1 in rw (e.1, e.2) (λ x k g q. onward_refused _ _ (condition _ _ x) _ _ _ c.args.left _ _ _ _ (rw c.token_at-t.ensures at (opened c.in_default.in_default-own.keys2)) _ _ (c.condition_at.ensures.0 x g) (c.loop-next.invariant.5 x g) k q _ _ c.in_err-after.was, spent_refused _ _ _ _ _ _ _ refl)

pub conditions_to-loop-next-smaller : goal.conditions_to-loop-next-smaller
conditions_to-loop-next-smaller t c = let w = spent_at _ _ _ _ _ _ _ _ c.in_ok-after.was c.condition_at.ensures.1 in omega (arith, w.0, w.1)

pub conditions_to-loop-next-preserved : goal.conditions_to-loop-next-preserved
conditions_to-loop-next-preserved t c = let w = spent_at _ _ _ _ _ _ _ _ c.in_ok-after.was c.condition_at.ensures.1 in (omega (arith, w.0, c.loop-next.invariant.0), w.1, search rules, omega (arith, w.2, c.loop-next.invariant.3), omega (arith, w.3, c.loop-next.invariant.4), λ x g. onward_more _ _ (condition _ _ x) _ _ _ c.args.left _ _ _ _ (rw c.token_at-t.ensures at (opened c.in_default.in_default-own.keys2)) _ _ (c.condition_at.ensures.0 x g) (c.loop-next.invariant.5 x g) _ _ _ w.0 w.1 c.in_ok-after.was)
