use Rattle.std.proofs.lemmas.Result.{err_from_is_err_and}
use mathlib.Core.Path.{refl, ap, ◌∙◌}
use Rattle.std.specs.Prelude.{Ok}
use mathlib.Core.Bool.{false}
use mathlib.Core.Logic.{inl, inr}
use Prim.Native.Nat.{◌-◌}
use native.Mathlib.Omega.{arith}
use Rattle.domain_meaning.specs.Read.{refuse}
use Rattle.domain_meaning.specs.Conditions.{atom_at}
use Rattle.domain_stored_meaning.specs.Cells.{cond_cells}
use Rattle.domain_expressions.proofs.Ends.{written_refused, spent_refused}
use Rattle.domain_conditions.proofs.Places.{fact_place, compared_place, spent_behind}
use Rattle.domain_conditions.proofs.Whole.{by_and, by_not, by_atom, by_comparison, by_refused}
use Rattle.domain_conditions.proofs.trees.negated_at.Goals as goal

pub overflow_sub-d-in-Not : goal.overflow_sub-d-in-Not
overflow_sub-d-in-Not c = let w = fact_place _ _ _ _ _ _ _ c.in_ok-head.was c.in-Not.is c.begun_at.ensures.1 in omega (arith, w.2)

pub atom_at-requires : goal.atom_at-requires
atom_at-requires c = let w = fact_place _ _ _ _ _ _ _ c.in_ok-head.was c.in-Not.is c.begun_at.ensures.1 in (w.1, c.requires.1, omega (arith, w.0, w.1, c.requires.2))

pub overflow_sub-d : goal.overflow_sub-d
overflow_sub-d c = let w = compared_place _ _ _ _ _ _ _ (c.in_ok-head.was ∙ ap Ok c.in-Compared.is) c.begun_at.ensures.1 in omega (arith, w.2)

pub compared_at-requires : goal.compared_at-requires
compared_at-requires c = let w = compared_place _ _ _ _ _ _ _ (c.in_ok-head.was ∙ ap Ok c.in-Compared.is) c.begun_at.ensures.1 in (w.1, c.requires.1, omega (arith, w.0, w.1, c.requires.2), w.3)

pub returns-in-And : goal.returns-in-And
returns-in-And c = (λ x g. written_refused cond_cells _ _ _ _ _ 11 _ (by_and _ _ x false c.args.left (λ p e. refuse 11 p) (λ p e. atom_at _ _ x false c.args.left p e) _ _ (c.begun_at.ensures.0 x false (λ p e. refuse 11 p) (λ p e. atom_at _ _ x false c.args.left p e)) _ _ (c.in_ok-head.was ∙ ap Ok c.in-And.is)) refl, spent_refused _ _ _ _ _ 11 _ refl)

pub returns-in-Not : goal.returns-in-Not
returns-in-Not c = let w = fact_place _ _ _ _ _ _ _ c.in_ok-head.was c.in-Not.is c.begun_at.ensures.1 in (
  λ x g. elim c.in-Not.is [
    | inl k ↦ rw (by_not c.args.text.now (c.args.d - 1) x false c.args.left (λ p e. refuse 11 p) (λ p e. atom_at c.args.text.now (c.args.d - 1) x false c.args.left p e) c.begun_at.result _ (c.begun_at.ensures.0 x false (λ p e. refuse 11 p) (λ p e. atom_at c.args.text.now (c.args.d - 1) x false c.args.left p e)) _ _ (c.in_ok-head.was ∙ ap Ok k)) (c.atom_at.ensures.0 x g)
    | inr k ↦ rw (by_atom c.args.text.now (c.args.d - 1) x false c.args.left (λ p e. refuse 11 p) (λ p e. atom_at c.args.text.now (c.args.d - 1) x false c.args.left p e) c.begun_at.result _ (c.begun_at.ensures.0 x false (λ p e. refuse 11 p) (λ p e. atom_at c.args.text.now (c.args.d - 1) x false c.args.left p e)) _ _ (c.in_ok-head.was ∙ ap Ok k)) (c.atom_at.ensures.0 x g)
  ],
  spent_behind c.atom_at.result 0 _ _ _ _ _ (omega (arith, w.0)) (omega arith) (omega (arith, w.0)) c.atom_at.ensures.1,
)

pub returns-in-Compared : goal.returns-in-Compared
returns-in-Compared c = let w = compared_place _ _ _ _ _ _ _ (c.in_ok-head.was ∙ ap Ok c.in-Compared.is) c.begun_at.ensures.1 in (λ x g. rw (by_comparison c.args.text.now (c.args.d - 1) x false c.args.left (λ p e. refuse 11 p) (λ p e. atom_at c.args.text.now (c.args.d - 1) x false c.args.left p e) c.begun_at.result _ (c.begun_at.ensures.0 x false (λ p e. refuse 11 p) (λ p e. atom_at c.args.text.now (c.args.d - 1) x false c.args.left p e)) _ _ _ (c.in_ok-head.was ∙ ap Ok c.in-Compared.is)) (c.compared_at.ensures.0 x g), spent_behind c.compared_at.result 2 _ _ _ _ _ (omega (arith, w.0)) (omega arith) (omega (arith, w.0)) c.compared_at.ensures.1)

pub returns-in_err-head : goal.returns-in_err-head
returns-in_err-head c = let e = err_from_is_err_and c.from_residual.result c.from_residual.ensures.1 in rw (e.1, e.2) (λ x g. written_refused cond_cells _ _ _ _ _ _ _ (by_refused c.args.text.now (c.args.d - 1) x false c.args.left (λ p e. refuse 11 p) (λ p e. atom_at c.args.text.now (c.args.d - 1) x false c.args.left p e) c.begun_at.result _ (c.begun_at.ensures.0 x false (λ p e. refuse 11 p) (λ p e. atom_at c.args.text.now (c.args.d - 1) x false c.args.left p e)) _ _ c.in_err-head.was) refl, spent_refused _ _ _ _ _ _ _ refl)
