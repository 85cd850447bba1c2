-- A line and the zeros after it. Assumes nothing.
use Prim.Native.Nat.{ℕ, zero, suc, ◌+◌, ◌<◌}
use mathlib.Core.List.{List, [], ◌∷◌, ◌++◌}
use mathlib.Core.Path.{◌≡◌, refl, sym, ap, ◌∙◌}
use native.Mathlib.Numerals.{add-one}
use native.Mathlib.Omega.{arith}
use lib.ListN.{length, take, get_or, set, replicate}
use lib.Seq.{take-suc, length-take-le}
use Rattle.domain_meaning.specs.Indexes.{padded}

pub zeros_padded : (m : ℕ) → replicate m 0 ≡ padded m []
unfolding padded
zeros_padded zero = refl
zeros_padded (suc m) = ap (λ (l : List ℕ). 0 ∷ l) (zeros_padded m)

padded_snoc : (m : ℕ) (w : List ℕ) (b : ℕ) → set (padded m w) (length w) b ≡ padded m (w ++ b ∷ [])
unfolding padded
padded_snoc zero w b = refl
padded_snoc (suc m) [] b = refl
padded_snoc (suc m) (x ∷ w) b = ap (λ (l : List ℕ). x ∷ l) (padded_snoc m w b)

-- one byte of the line more
pub padded_more : (m : ℕ) (l : List ℕ) (i : ℕ) → i < length l → set (padded m (take i l)) i (get_or l i 0) ≡ padded m (take (i + 1) l)
padded_more m l i h =
    ap (λ (k : ℕ). set (padded m (take i l)) k (get_or l i 0)) (sym (length-take-le i l (omega arith)))
    ∙ padded_snoc m (take i l) (get_or l i 0)
    ∙ ap (λ (w : List ℕ). padded m w) (sym (take-suc l i 0 h))
    ∙ ap (λ (k : ℕ). padded m (take k l)) (sym (add-one i))
