-- What is written from the first place on, one place after the other. Assumes nothing.
use Prim.Native.Nat.{ℕ, suc, ◌+◌, ◌<◌}
use mathlib.Core.List.{List, [], ◌∷◌, ◌++◌, map}
use mathlib.Core.Path.{◌≡◌, refl, sym, ap, ◌∙◌}
use native.Mathlib.Nat.{add-zero}
use native.Mathlib.Numerals.{add-one}
use native.Mathlib.Omega.{arith}
use lib.ListN.{length, take, get_or, set, length-map}
use lib.Seq.{sets, length-sets, take-suc, length-take-le}

module _ {A : Type 0} where
  sets_snoc : (l : List A) (u : ℕ) (vs : List A) (a : A) → set (sets l u vs) (u + length vs) a ≡ sets l u (vs ++ a ∷ [])
  sets_snoc l u [] a = ap (λ (k : ℕ). set l k a) (add-zero u)
  sets_snoc l u (v ∷ vs) a =
      let e : u + suc (length vs) ≡ suc u + length vs = omega arith in
      ap (λ (k : ℕ). set (sets (set l u v) (suc u) vs) k a) e ∙ sets_snoc (set l u v) (suc u) vs a

  pub written_length : (l out vs : List A) → out ≡ sets l 0 vs → length out ≡ length l
  written_length l out vs e = ap length e ∙ length-sets l 0 vs

  module _ (f : A → A) where
    map_snoc : (l : List A) (a : A) → map f l ++ f a ∷ [] ≡ map f (l ++ a ∷ [])
    map_snoc [] a = refl
    map_snoc (x ∷ l) a = ap (λ (r : List A). f x ∷ r) (map_snoc l a)

    -- one place more
    pub written_more : (out l : List A) (i : ℕ) (d : A) → i < length l
        → set (sets out 0 (map f (take i l))) i (f (get_or l i d)) ≡ sets out 0 (map f (take (i + 1) l))
    written_more out l i d h =
        let e : i ≡ 0 + length (map f (take i l)) = omega (arith, length-map (take i l) f, length-take-le i l (omega arith)) in
        ap (λ (k : ℕ). set (sets out 0 (map f (take i l))) k (f (get_or l i d))) e
        ∙ sets_snoc out 0 (map f (take i l)) (f (get_or l i d))
        ∙ ap (λ (vs : List A). sets out 0 vs) (map_snoc (take i l) (get_or l i d))
        ∙ ap (λ (t : List A). sets out 0 (map f t)) (sym (take-suc l i d h))
        ∙ ap (λ (k : ℕ). sets out 0 (map f (take k l))) (sym (add-one i))
