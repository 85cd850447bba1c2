-- How a run begins. Assumes nothing.
use mathlib.Core.Path.{◌≡◌, refl}
use mathlib.Core.List.{List, [], ◌∷◌}
use mathlib.Core.Bool.{true, false, and-false}
use Prim.Native.Nat.{ℕ, ◌<◌}
use native.Mathlib.Omega.{arith}
use lib.ListN.{length, get_or}
use lib.Dec.{eqb}
use borrow.Author.Tests.{eq-eqb, ne_eqb}
use Rattle.text_words.specs.Bytes.{kind_of, is_digit}
use Rattle.text_tokens.specs.Classes.{begun_by, begins_number}

pub begun_none : (x : ℕ) (w : List ℕ) → length w ≡ 0 → begun_by x w ≡ false
begun_none x [] h = refl
begun_none x (b ∷ bs) h = absurd (let y : ⊥ = omega arith in y)

pub begun_some : (x : ℕ) (w : List ℕ) → (length w ≡ 0 → ⊥) → begun_by x w ≡ eqb (get_or w 0 0) x
begun_some x [] h = absurd (h refl)
begun_some x (b ∷ bs) h = refl

pub begun_length : (x : ℕ) (w : List ℕ) → begun_by x w ≡ true → 0 < length w
begun_length x [] h = absurd (let z : ◌≡◌ {A = ℕ} 0 1 = cc in let y : ⊥ = omega arith in y)
begun_length x (b ∷ bs) h = omega arith

pub number_empty : (w : List ℕ) → length w ≡ 0 → begins_number w ≡ false
unfolding begins_number
number_empty [] h = refl
number_empty (b ∷ bs) h = absurd (let y : ⊥ = omega arith in y)

pub number_digit : (w : List ℕ) → 0 < length w → is_digit (kind_of (get_or w 0 0)) ≡ true → begins_number w ≡ true
unfolding begins_number
number_digit [] h d = absurd (let y : ⊥ = omega arith in y)
number_digit (b ∷ bs) h d = rw d

pub number_other : (w : List ℕ) → 0 < length w → is_digit (kind_of (get_or w 0 0)) ≡ false → (get_or w 0 0 ≡ 45 → ⊥) → begins_number w ≡ false
unfolding begins_number
number_other [] h d n = refl
number_other (b ∷ bs) h d n = rw (d, ne_eqb b 45 n)

pub number_minus_end : (w : List ℕ) → length w ≡ 1 → is_digit (kind_of (get_or w 0 0)) ≡ false → begins_number w ≡ false
unfolding begins_number
number_minus_end [] h d = refl
number_minus_end (b ∷ []) h d = rw (d, and-false (eqb b 45))
number_minus_end (b ∷ x ∷ bs) h d = absurd (let y : ⊥ = omega arith in y)

pub number_minus : (w : List ℕ) → 1 < length w → is_digit (kind_of (get_or w 0 0)) ≡ false → get_or w 0 0 ≡ 45 → begins_number w ≡ is_digit (kind_of (get_or w 1 0))
unfolding begins_number
number_minus [] h d e = absurd (let y : ⊥ = omega arith in y)
number_minus (b ∷ []) h d e = absurd (let y : ⊥ = omega arith in y)
number_minus (b ∷ x ∷ bs) h d e = rw (d, eq-eqb b 45 e)
