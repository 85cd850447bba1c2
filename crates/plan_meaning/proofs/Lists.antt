-- Laws of `keep`, and of a predicate on every element of a list. Assumes nothing.
use Prim.Native.Nat.{◌≤◌}
use mathlib.Core.Bool.{Bool, true, false, true≢false}
use mathlib.Core.List.{List, [], ◌∷◌, ◌++◌}
use mathlib.Core.Path.{◌≡◌, refl, sym, ◌∙◌}
use native.Mathlib.Omega.{arith}
use lib.ListN.{length}
use Rattle.plan_meaning.specs.Lists.{keep}

abbrev pub All : {A : Type 0} → (A → Type 0) → List A → Type 0
All P [] = Unit
All P (x ∷ xs) = P x × All P xs

module _ {A : Type 0} where
  pub all_map : {P Q : A → Type 0} → ((x : A) → P x → Q x) → (xs : List A) → All P xs → All Q xs
  all_map h [] a = tt
  all_map h (x ∷ xs) a = (h x a.0, all_map h xs a.1)

  pub all_append : (P : A → Type 0) (xs ys : List A) → All P xs → All P ys → All P (xs ++ ys)
  all_append P [] ys a b = b
  all_append P (x ∷ xs) ys a b = (a.0, all_append P xs ys a.1 b)

  pub keep_append : (f : A → Bool) (xs ys : List A) → keep f (xs ++ ys) ≡ keep f xs ++ keep f ys
  keep_append f [] ys = refl
  keep_append f (x ∷ xs) ys = go (f x) refl (keep_append f xs ys)
    where
      go : (b : Bool) → f x ≡ b → keep f (xs ++ ys) ≡ keep f xs ++ keep f ys → keep f (x ∷ xs ++ ys) ≡ keep f (x ∷ xs) ++ keep f ys
      go true p ih = rw (p, ih)
      go false p ih = rw (p, ih)

  pub keep_all : (f : A → Bool) (xs : List A) → All (λ x. f x ≡ true) xs → keep f xs ≡ xs
  keep_all f [] a = refl
  keep_all f (x ∷ xs) a = rw (a.0, keep_all f xs a.1)

  pub keep_none : (f : A → Bool) (xs : List A) → All (λ x. f x ≡ false) xs → keep f xs ≡ []
  keep_none f [] a = refl
  keep_none f (x ∷ xs) a = rw (a.0, keep_none f xs a.1)

  pub all_keep : {P : A → Type 0} (f : A → Bool) → ((x : A) → f x ≡ true → P x) → (xs : List A) → All P (keep f xs)
  all_keep f h [] = tt
  all_keep {P} f h (x ∷ xs) = go (f x) refl (all_keep f h xs)
    where
      go : (b : Bool) → f x ≡ b → All P (keep f xs) → All P (keep f (x ∷ xs))
      go true p ih = rw p (h x p, ih)
      go false p ih = rw p ih

  -- a test that another test implies is passed over
  pub keep_keep : (g f : A → Bool) → ((x : A) → g x ≡ true → f x ≡ true) → (xs : List A) → keep g (keep f xs) ≡ keep g xs
  keep_keep g f h [] = refl
  keep_keep g f h (x ∷ xs) = go (f x) (g x) refl refl (keep_keep g f h xs)
    where
      go : (a b : Bool) → f x ≡ a → g x ≡ b → keep g (keep f xs) ≡ keep g xs → keep g (keep f (x ∷ xs)) ≡ keep g (x ∷ xs)
      go true true p q ih = rw (p, q, ih)
      go true false p q ih = rw (p, q, ih)
      go false true p q ih = absurd (true≢false (sym (h x q) ∙ p))
      go false false p q ih = rw (p, q, ih)

  -- two tests that agree on every element keep the same
  pub keep_same : (g f : A → Bool) (xs : List A) → All (λ x. g x ≡ f x) xs → keep g xs ≡ keep f xs
  keep_same g f [] a = refl
  keep_same g f (x ∷ xs) a = rw (a.0, keep_same g f xs a.1)

  pub keep_shorter : (f : A → Bool) (xs : List A) → length (keep f xs) ≤ length xs
  keep_shorter f [] = omega arith
  keep_shorter f (x ∷ xs) = go (f x) refl (keep_shorter f xs)
    where
      go : (b : Bool) → f x ≡ b → length (keep f xs) ≤ length xs → length (keep f (x ∷ xs)) ≤ length (x ∷ xs)
      go true p ih = rw p (omega arith)
      go false p ih = rw p (omega arith)
