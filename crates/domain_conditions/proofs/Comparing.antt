-- The ways of reading a comparison of two expressions, and its cells. Assumes nothing.
use mathlib.Core.Path.{◌≡◌, refl, ap, ◌∙◌}
use mathlib.Core.List.{List, ◌∷◌, ◌++◌}
use mathlib.Core.Bool.{Bool, cond}
use Prim.Native.Nat.{ℕ, zero, suc, ◌+◌, ◌≤◌}
use native.Mathlib.Omega.{arith}
use lib.ListN.{length, set, length-append}
use lib.Seq.{sets}
use Rattle.base_laws.proofs.Sets.{sets_append}
use Rattle.domain_meaning.specs.Read.{Read, got, refused, and_then}
use Rattle.domain_meaning.specs.Due.{closing}
use Rattle.domain_meaning.specs.Terms.{Scope, Expr, counts, expression}
use Rattle.domain_meaning.specs.Conditions.{Comparison, compare, comparison}
use Rattle.domain_due.specs.Answers.{Parsed}
use Rattle.domain_due.specs.Answers as A
use Rattle.domain_terms.proofs.Taken.{wrote_got, wrote_not}
use Rattle.domain_terms.specs.Cells.{Wrote}
use Rattle.domain_expressions.specs.Codes.{Progress, Refused, cells_of, Written, Over}
use Rattle.domain_expressions.proofs.Ends.{written_refused}
use Rattle.domain_stored_meaning.specs.Cells.{comparison_cell, cond_cells}
use Rattle.domain_conditions.specs.Begins.{comparison_of}
use Rattle.domain_conditions.specs.Closed.{closed_by}

-- ---- cells

pub comparison_cell_lem : (k : ℕ) → k ≤ 4 → comparison_cell (comparison_of k) ≡ k
comparison_cell_lem zero h = refl
comparison_cell_lem (suc zero) h = refl
comparison_cell_lem (suc (suc zero)) h = refl
comparison_cell_lem (suc (suc (suc zero))) h = refl
comparison_cell_lem (suc (suc (suc (suc k)))) h = let z : k ≡ 0 = omega arith in rw z

-- ---- what was read, by the answer

pub over_at : (u at a v : ℕ) (r : Parsed) → r ≡ A.Done a v → Over u at r → (u ≤ v) × (v + at ≤ u + a + 1)
unfolding Over
over_at u at a v r e h = rw e at h

-- ---- a comparison

module _ (s : List ℕ) (d : ℕ) (c : Scope) (yes' : Bool) (op : Comparison) (l at : ℕ) where
  first_not : (k p : ℕ) → expression s d c at ≡ refused k p → comparison s d c yes' op l at ≡ refused k p
  unfolding comparison
  first_not k p e = rw e

  second_not : (a : Expr) (i k p : ℕ) → expression s d c at ≡ got a i → expression s d c i ≡ refused k p → comparison s d c yes' op l at ≡ refused k p
  unfolding comparison
  second_not a i k p e q = rw (e, q)

  both_read : (a b : Expr) (i j : ℕ) → expression s d c at ≡ got a i → expression s d c i ≡ got b j
      → comparison s d c yes' op l at ≡ and_then (closing s d j) (λ _ z. got (counts (compare yes' op a b) l) z)
  unfolding comparison
  both_read a b i j e q = rw (e, q)

  cells_both : (code : List ℕ) (u tag v : ℕ) (xs ys m₁ m₂ : List ℕ) → v ≡ u + 1 + length xs → m₁ ≡ sets (set code u tag) (u + 1) xs → m₂ ≡ sets m₁ v ys
      → m₂ ≡ sets code u (tag ∷ (xs ++ ys))
  cells_both code u tag v xs ys m₁ m₂ ev h₁ h₂ =
      let one : u + 1 ≡ suc u = omega arith in
      h₂ ∙ ap (λ (r : List ℕ). sets r v ys) h₁ ∙ ap (λ (i : ℕ). sets (sets (set code u tag) (u + 1) xs) i ys) ev ∙ sets_append (set code u tag) (u + 1) xs ys
      ∙ ap (λ (i : ℕ). sets (set code u tag) i (xs ++ ys)) one

  both_closed : (code : List ℕ) (u w : ℕ) (m : List ℕ) (a b : Expr) (x : Read ℕ) → w ≡ u + suc (length (cells_of a ++ cells_of b))
      → m ≡ sets code u ((cond yes' 12 17 + comparison_cell op) ∷ (cells_of a ++ cells_of b))
      → Written cond_cells code u (closed_by w l x) m (and_then x (λ _ z. got (counts (compare yes' op a b) l) z))
  unfolding Written cond_cells
  both_closed code u w m a b (got p n) e h = (rw e, h)
  both_closed code u w m a b (refused k p) e h = refl

  module _ (code : List ℕ) (u tag : ℕ) (et : tag ≡ cond yes' 12 17 + comparison_cell op) (r₁ : Parsed) (m₁ : List ℕ)
      (w₁ : Wrote cells_of (set code u tag) (u + 1) r₁ m₁ (expression s d c at)) where
    pub comparison_first : (k p : ℕ) → r₁ ≡ A.Refused k p → Written cond_cells code u (Refused k p) m₁ (comparison s d c yes' op l at)
    comparison_first k p e = written_refused cond_cells code u _ m₁ _ k p (first_not k p (wrote_not cells_of _ _ r₁ m₁ _ k p w₁ e)) refl

    module _ (i v : ℕ) (e₁ : r₁ ≡ A.Done i v) (r₂ : Parsed) (m₂ : List ℕ) (w₂ : Wrote cells_of m₁ v r₂ m₂ (expression s d c i)) where
      pub comparison_second : (k p : ℕ) → r₂ ≡ A.Refused k p → Written cond_cells code u (Refused k p) m₂ (comparison s d c yes' op l at)
      comparison_second k p e =
          let g = wrote_got cells_of _ _ r₁ m₁ _ i v w₁ e₁ in
          written_refused cond_cells code u _ m₂ _ k p (second_not g.tree i k p g.is (wrote_not cells_of m₁ v r₂ m₂ _ k p w₂ e)) refl

      pub comparison_done : (j w : ℕ) (r : Progress) → r₂ ≡ A.Done j w → r ≡ closed_by w l (closing s d j)
          → Written cond_cells code u r m₂ (comparison s d c yes' op l at)
      comparison_done j w r e q =
          let g = wrote_got cells_of _ _ r₁ m₁ _ i v w₁ e₁ in
          let y = wrote_got cells_of m₁ v r₂ m₂ _ j w w₂ e in
          rw (q, both_read g.tree y.tree i j g.is y.is)
          (both_closed code u w m₂ g.tree y.tree (closing s d j)
          (omega (arith, g.free, y.free, length-append (cells_of g.tree) (cells_of y.tree)))
          (cells_both code u tag v (cells_of g.tree) (cells_of y.tree) m₁ m₂ g.free g.stored y.stored
          ∙ ap (λ (t : ℕ). sets code u (t ∷ (cells_of g.tree ++ cells_of y.tree))) et))
