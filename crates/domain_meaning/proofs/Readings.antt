-- Readings one after the other: what was read by both, and two ways to say the same. Assumes nothing.
use mathlib.Core.Path.{◌≡◌, refl}
use Prim.Native.Nat.{ℕ}
use native.Mathlib.Omega.{arith}
use Rattle.domain_meaning.specs.Read.{Read, Reader, got, refused, and_then}

-- what is refused is not read
pub never : {A B : Type 0} {k p n : ℕ} {b : B} → ◌≡◌ {A = Read B} (refused k p) (got b n) → A
never h = absurd (let z : ◌≡◌ {A = ℕ} 0 1 = cc in let y : ⊥ = omega arith in y)

-- what was read by one reader after another
pub record Then {A B : Type 0} (x : Read A) (f : A → Reader B) (b : B) (n : ℕ) : Type 0 where
  pub value : A
  pub place : ℕ
  pub first : x ≡ got value place
  pub second : f value place ≡ got b n

pub then_got : {A B : Type 0} (x : Read A) (f : A → Reader B) (b : B) (n : ℕ) → and_then x f ≡ got b n → Then x f b n
then_got (got a m) f b n h = record { value = a; place = m; first = refl; second = h }
then_got (refused k p) f b n h = never h

pub then_same : {A B : Type 0} (x : Read A) (f g : A → Reader B) → ((a : A) (n : ℕ) → f a n ≡ g a n) → and_then x f ≡ and_then x g
then_same (got a n) f g h = h a n
then_same (refused k p) f g h = refl

pub then_then : {A B C : Type 0} (x : Read A) (f : A → Reader B) (g : B → Reader C) → and_then (and_then x f) g ≡ and_then x (λ a n. and_then (f a n) g)
then_then (got a n) f g = refl
then_then (refused k p) f g = refl

-- a reading that is made of two is made of one
pub then_under : {A B C : Type 0} (x : Read A) (f : A → Reader B) (g : B → Reader C) (h : A → Reader C) → ((a : A) (n : ℕ) → and_then (f a n) g ≡ h a n)
    → and_then (and_then x f) g ≡ and_then x h
then_under (got a n) f g h e = e a n
then_under (refused k p) f g h e = refl
