-- What the definitions need of lists.
use Rattle.std.specs.Prelude.{ℕ, suc, ◌≤◌, List, [], ◌∷◌, ◌⊎◌, ◌≡◌}

module _ {A : Type 0} where
  infix 20 ◌∈◌
  -- every element is so
  abbrev pub All : (A → Type 0) → List A → Type 0
  All P [] = Unit
  All P (x ∷ xs) = P x × All P xs

  -- every two elements of different places are so, the earlier one named first
  abbrev pub Pairwise : (A → A → Type 0) → List A → Type 0
  Pairwise R [] = Unit
  Pairwise R (x ∷ xs) = All (R x) xs × Pairwise R xs

  abbrev pub ◌∈◌ : A → List A → Type 0
  x ∈ [] = ⊥
  x ∈ (y ∷ ys) = (x ≡ y) ⊎ (x ∈ ys)

  -- some element fails, and every one before it is so
  abbrev pub First : (A → Type 0) → (A → Type 0) → List A → Type 0
  First P F [] = ⊥
  First P F (x ∷ xs) = F x ⊎ (P x × First P F xs)

  -- the same of two elements of different places, by the earlier, then the later
  abbrev pub FirstPair : (A → A → Type 0) → (A → A → Type 0) → List A → Type 0
  FirstPair R F [] = ⊥
  FirstPair R F (x ∷ xs) = First (R x) (F x) xs ⊎ (All (R x) xs × FirstPair R F xs)

-- numbers from b on, each above the one before it
abbrev pub Ascending : ℕ → List ℕ → Type 0
Ascending b [] = Unit
Ascending b (t ∷ ts) = (b ≤ t) × Ascending (suc t) ts
