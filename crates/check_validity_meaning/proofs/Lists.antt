-- Laws of every element, of membership and of a first failure, and of the tests that find some element. Assumes nothing.
use mathlib.Core.Bool.{Bool, true, false, ◌||◌}
use mathlib.Core.List.{List, [], ◌∷◌, ◌++◌, map}
use mathlib.Core.Logic.{◌⊎◌, inl, inr}
use mathlib.Core.Path.{◌≡◌, refl, sym, ap, subst}
use Rattle.base_laws.proofs.Splits.{or_left, or_right}
use Rattle.happening_meaning.specs.Writes.{some}
use Rattle.plan_meaning.specs.Lists.{keep}
use Rattle.plan_meaning.proofs.Lists.{all_append}
use Rattle.check_validity_meaning.specs.Lists.{All, Pairwise, First, FirstPair, ◌∈◌}

pub neither : {s t : Bool} → s ≡ false → t ≡ false → (s || t) ≡ false
neither e f = rw (e, f)

module _ {A : Type 0} where
  pub all_in : (P : A → Type 0) (xs : List A) → All P xs → (x : A) → x ∈ xs → P x
  all_in P [] a x i = absurd i
  all_in P (y ∷ ys) a x (inl e) = subst P (sym e) a.0
  all_in P (y ∷ ys) a x (inr i) = all_in P ys a.1 x i

  pub in_all : {P : A → Type 0} (xs : List A) → ((x : A) → x ∈ xs → P x) → All P xs
  in_all [] h = tt
  in_all (y ∷ ys) h = (h y (inl refl), in_all ys (λ x i. h x (inr i)))

  pub in_left : (x : A) (xs ys : List A) → x ∈ xs → x ∈ (xs ++ ys)
  in_left x [] ys i = absurd i
  in_left x (y ∷ xs) ys (inl e) = inl e
  in_left x (y ∷ xs) ys (inr i) = inr (in_left x xs ys i)

  pub in_right : (x : A) (xs ys : List A) → x ∈ ys → x ∈ (xs ++ ys)
  in_right x [] ys i = i
  in_right x (y ∷ xs) ys i = inr (in_right x xs ys i)

  pub in_either : (x : A) (xs ys : List A) → x ∈ (xs ++ ys) → (x ∈ xs) ⊎ (x ∈ ys)
  in_either x [] ys i = inr i
  in_either x (y ∷ xs) ys (inl e) = inl (inl e)
  in_either x (y ∷ xs) ys (inr i) = elim (in_either x xs ys i) [ inl j ↦ inl (inr j) | inr j ↦ inr j ]

  pub in_mapped : {B : Type 0} (f : A → B) (x : A) (xs : List A) → x ∈ xs → f x ∈ map f xs
  in_mapped f x [] i = absurd i
  in_mapped f x (y ∷ ys) (inl e) = inl (ap f e)
  in_mapped f x (y ∷ ys) (inr i) = inr (in_mapped f x ys i)

  pub from_mapped : {B : Type 0} (f : A → B) (m : B) (xs : List A) → m ∈ map f xs → (x : A) × (x ∈ xs) × (m ≡ f x)
  from_mapped f m [] i = absurd i
  from_mapped f m (y ∷ ys) (inl e) = (y, inl refl, e)
  from_mapped f m (y ∷ ys) (inr i) = let h = from_mapped f m ys i in (h.0, inr h.1, h.2)

  pub all_kept : (P : A → Type 0) (f : A → Bool) (xs : List A) → All P xs → All P (keep f xs)
  all_kept P f [] a = tt
  all_kept P f (x ∷ xs) a = go (f x) refl (all_kept P f xs a.1)
    where
      go : (b : Bool) → f x ≡ b → All P (keep f xs) → All P (keep f (x ∷ xs))
      go true e ih = rw e (a.0, ih)
      go false e ih = rw e ih

  pub all_mapped : {B : Type 0} (P : B → Type 0) (f : A → B) (xs : List A) → All (λ x. P (f x)) xs → All P (map f xs)
  all_mapped P f [] a = tt
  all_mapped P f (x ∷ xs) a = (a.0, all_mapped P f xs a.1)

  pub mapped_all : {B : Type 0} (P : B → Type 0) (f : A → B) (xs : List A) → All P (map f xs) → All (λ x. P (f x)) xs
  mapped_all P f [] a = tt
  mapped_all P f (x ∷ xs) a = (a.0, mapped_all P f xs a.1)

  -- what follows from the failure of some element, or of some two
  pub first_in_lem : {B : Type 0} {F : A → Type 0} (P : A → Type 0) (xs : List A) → ((x : A) → x ∈ xs → F x → B) → First P F xs → B
  first_in_lem P [] f h = absurd h
  first_in_lem P (x ∷ xs) f (inl h) = f x (inl refl) h
  first_in_lem P (x ∷ xs) f (inr h) = first_in_lem P xs (λ y i. f y (inr i)) h.1

  pub pair_in : {B : Type 0} {F : A → A → Type 0} (R : A → A → Type 0) (xs : List A) → ((x y : A) → x ∈ xs → y ∈ xs → F x y → B) → FirstPair R F xs → B
  pair_in R [] f h = absurd h
  pair_in R (x ∷ xs) f (inl h) = first_in_lem (R x) xs (λ y i. f x y (inl refl) (inr i)) h
  pair_in R (x ∷ xs) f (inr h) = pair_in R xs (λ y z i j. f y z (inr i) (inr j)) h.1

  -- two lists whose elements go together, each by itself and one with the other
  pub pairwise_append : (R : A → A → Type 0) (xs ys : List A) → Pairwise R xs → Pairwise R ys → All (λ x. All (R x) ys) xs → Pairwise R (xs ++ ys)
  pairwise_append R [] ys a b c = b
  pairwise_append R (x ∷ xs) ys a b c = (all_append (R x) xs ys a.0 c.0, pairwise_append R xs ys a.1 b c.1)

  -- ---- `some`
  pub none_in : (f : A → Bool) (xs : List A) → some f xs ≡ false → All (λ x. f x ≡ false) xs
  unfolding some
  none_in f [] e = tt
  none_in f (x ∷ xs) e = (or_left (f x) (some f xs) e, none_in f xs (or_right (f x) (some f xs) e))

  pub all_none : (f : A → Bool) (xs : List A) → All (λ x. f x ≡ false) xs → some f xs ≡ false
  unfolding some
  all_none f [] a = refl
  all_none f (x ∷ xs) a = neither a.0 (all_none f xs a.1)
