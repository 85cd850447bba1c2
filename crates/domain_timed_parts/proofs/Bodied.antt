-- What stands in a part is what was read of a condition or of effects. Assumes nothing.
use Rattle.std.specs.Prelude.{Err}
use mathlib.Core.Path.{◌≡◌, refl, ap, ◌∙◌}
use mathlib.Core.List.{List, [], ◌∷◌, ◌++◌}
use mathlib.Core.Bool.{Bool, true, false}
use Prim.Native.Nat.{ℕ, ◌+◌, ◌≤◌, ◌<◌}
use native.Mathlib.Omega.{arith}
use lib.ListN.{length, set, length-append}
use lib.Seq.{sets}
use Rattle.base_laws.proofs.Sets.{sets_append}
use Rattle.domain_meaning.specs.Read.{Read, got, refused, and_then}
use Rattle.domain_meaning.specs.Terms.{Scope, Counted, counts}
use Rattle.domain_meaning.specs.Conditions.{condition}
use Rattle.domain_meaning.specs.Effects.{Effect, effect}
use Rattle.domain_expressions.specs.Codes.{Written, Spent}
use Rattle.domain_expressions.specs.Codes.{Progress}
use Rattle.domain_expressions.specs.Codes.{Done, Refused}
use Rattle.domain_expressions.proofs.Ends.{written_refused}
use Rattle.domain_expressions.proofs.Operands.{written_got, written_not}
use Rattle.domain_stored_meaning.specs.Cells.{cond_cells, effects_cells, list_cells}
use Rattle.domain_timed_parts.specs.Bodies.{as_is, body_of}

-- ---- how many cells were written

pub spent_by : (more n u at a v l : ℕ) → at < a → a ≤ n → u ≤ v → v + at ≤ u + a + more → Spent more n u at (Done a v l)
unfolding Spent
spent_by more n u at a v l lo hi up few = (lo, hi, up, few)

pub spent_more : (r : Progress) (more n u at : ℕ) → Spent 0 n u at r → Spent more n u at r
unfolding Spent
spent_more (Done a v l) more n u at h = (h.0, h.1, h.2, omega (arith, h.3))
spent_more (Err why) more n u at h = tt

-- ---- a tree's cells as they are

pub as_cells : {A : Type 0} (cells : A → List ℕ) (code : List ℕ) (u : ℕ) (r : Progress) (m : List ℕ) (x : Read (Counted A)) → Written cells code u r m x
    → Written as_is code u r m (and_then x (λ y n. got (counts (cells y.tree) y.left) n))
unfolding Written
as_cells cells code u r m (got y n) h = h
as_cells cells code u r m (refused k p) h = h

-- effects, and the cell that ends them
ended : (code : List ℕ) (u : ℕ) (y : Counted (List Effect)) (a v l : ℕ) (m m' : List ℕ) → v ≡ u + length (effects_cells y.tree) → l ≡ y.left
    → m ≡ sets code u (effects_cells y.tree) → m' ≡ set m v 0 → Written as_is code u (Done a (v + 1) l) m' (got (counts (list_cells y.tree) y.left) a)
unfolding Written
ended code u y a v l m m' free left stored q =
    let es = effects_cells y.tree in
    let long : v + 1 ≡ u + length (es ++ 0 ∷ []) = omega (arith, free, length-append es (0 ∷ [])) in
    (rw (long, left) refl, q ∙ ap (λ (k : List ℕ). set k v 0) stored ∙ ap (λ (k : ℕ). set (sets code u es) k 0) free ∙ sets_append code u es (0 ∷ []))

module _ (s : List ℕ) (c : Scope) (d n at : ℕ) (over : Bool) (code : List ℕ) (u : ℕ) (r : Progress) (m : List ℕ) where
  pub body_condition : over ≡ true → Written cond_cells code u r m (condition d s c n at) → Written as_is code u r m (body_of over s c d n at)
  unfolding body_of
  body_condition o h = rw o (as_cells cond_cells code u r m (condition d s c n at) h)

  module _ (o : over ≡ false) (h : Written effects_cells code u r m (effect d s c n at)) where
    pub body_refused : (k p : ℕ) → r ≡ Refused k p → Written as_is code u r m (body_of over s c d n at)
    unfolding body_of
    body_refused k p e =
        let z = written_not effects_cells code u r m (effect d s c n at) k p h e in
        rw o (written_refused as_is code u r m _ k p (ap (λ (x : Read (Counted (List Effect))). and_then x
        (λ y a. got (counts (list_cells y.tree) y.left) a)) z) e)

    pub body_effects : (a v l : ℕ) (m' : List ℕ) → r ≡ Done a v l → m' ≡ set m v 0 → Written as_is code u (Done a (v + 1) l) m' (body_of over s c d n at)
    unfolding body_of
    body_effects a v l m' e q =
        let g = written_got effects_cells code u r m (effect d s c n at) a v l h e in
        rw (o, g.is) (ended code u g.tree a v l m m' g.free g.left g.stored q)
