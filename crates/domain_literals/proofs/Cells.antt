-- Signs, and bytes stored one by one. Assumes nothing.
use mathlib.Core.Path.{◌≡◌, refl, sym, ap, ◌∙◌}
use mathlib.Core.List.{List}
use mathlib.Core.Bool.{true, false, false≢true}
use Prim.Native.Nat.{ℕ, zero, suc, ◌+◌, ◌-◌, ◌/◌, ◌%◌, ◌≤◌, ◌<◌}
use native.Mathlib.Omega.{arith}
use lib.Dec.{T}
use lib.IntN.{ℤ, pos, negsuc, nat_abs, ◌-ℤ◌}
use lib.ListN.{length, set}
use lib.Seq.{sets}
use lib.Signed.{mag, lt_z, non_neg}
use borrow.Author.Tests.{lt-ltb, le-ltb, ne_eqb}
use Rattle.domain_literals.specs.Literal.{sign_base, size_of, bytes_of, literal, number_cells}

-- ---- a negative number turned round

pub turned_mag : (z : ℤ) (k : ℕ) → mag z < k → mag (pos 0 -ℤ z) < k + 1
turned_mag (pos zero) k h = omega arith
turned_mag (pos (suc n)) k h = let e : suc n - suc 0 ≡ n = omega arith in rw (lt-ltb 0 (suc n) (omega arith), e) (omega arith)
turned_mag (negsuc n) k h = omega arith

pub turned_positive : (z : ℤ) → lt_z z (pos 0) ≡ true → T (non_neg (pos 0 -ℤ z))
turned_positive (pos n) h = absurd (false≢true (sym (le-ltb n 0 (omega arith)) ∙ h))
turned_positive (negsuc n) h = tt

pub turned_abs : (z : ℤ) → lt_z z (pos 0) ≡ true → nat_abs (pos 0 -ℤ z) ≡ nat_abs z
turned_abs (pos n) h = absurd (false≢true (sym (le-ltb n 0 (omega arith)) ∙ h))
turned_abs (negsuc n) h = let e : 0 + suc n ≡ suc n = omega arith in e

pub plain_positive : (z : ℤ) → lt_z z (pos 0) ≡ false → T (non_neg z)
plain_positive (pos n) h = tt
plain_positive (negsuc n) h = absurd (false≢true (sym h))

pub abs_most : (z : ℤ) (k : ℕ) → mag z < k → nat_abs z ≤ k
abs_most (pos n) k h = omega arith
abs_most (negsuc n) k h = omega arith

-- ---- bytes

pub bytes_length : (k v : ℕ) → length (bytes_of k v) ≡ k
unfolding bytes_of
bytes_length zero v = refl
bytes_length (suc k) v = ap suc (bytes_length k (v / 256))

-- the rest of the bytes, stored from the next place on
pub bytes_step : (code : List ℕ) (at i k v : ℕ) → i < k → sets (set code (at + i) (v % 256)) (at + (i + 1)) (bytes_of (k - (i + 1)) (v / 256)) ≡ sets
    code (at + i) (bytes_of (k - i) v)
unfolding bytes_of
bytes_step code at i k v h =
    let e : at + (i + 1) ≡ suc (at + i) = omega arith in
    let n : k - i ≡ suc (k - (i + 1)) = omega arith in
    rw (e, n)

pub bytes_end : (code : List ℕ) (at i k v : ℕ) → k ≤ i → sets code (at + i) (bytes_of (k - i) v) ≡ code
unfolding bytes_of
bytes_end code at i k v h = let n : k - i ≡ 0 = omega arith in rw n

pub literal_length : (base v : ℕ) → length (literal base v) ≡ 1 + size_of v
literal_length base v = let e = bytes_length (size_of v) v in omega (arith, e)

pub cells_whole : (z : ℤ) → nat_abs z % 1000 ≡ 0 → number_cells z ≡ literal (sign_base z + 16) (nat_abs z / 1000)
unfolding number_cells
cells_whole z h = rw h

pub cells_fine : (z : ℤ) → (nat_abs z % 1000 ≡ 0 → ⊥) → number_cells z ≡ literal (sign_base z) (nat_abs z)
unfolding number_cells
cells_fine z h = rw (ne_eqb (nat_abs z % 1000) 0 h)
