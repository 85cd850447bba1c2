-- Masks: a bit that is set stays set when masks are joined, and masks that share no bit have no bit in common. Assumes nothing.
use mathlib.Core.Path.{◌≡◌, refl, sym, ap, ap₂, ◌∙◌}
use mathlib.Core.Bool.{Bool, true, false}
use Prim.Native.Nat.{ℕ, zero, suc, ◌*◌, ◌/◌, ◌%◌, ◌^◌, ◌≤◌, ◌<◌}
use native.Mathlib.Nat.{one-mul, mod-lt, zero-lt-suc}
use native.Mathlib.Omega.{arith}
use lib.Pow.{shl_exact, shl-shr, shr_le}
use lib.Bits.{bit_and, bit_or, or_comm, or_shr, or_mod, and_shr, and_mod}
use borrow.Author.Tests.{eqb-true, eq-eqb}
use Rattle.happening_state.specs.Masks.{bit_of, has}

-- ---- one bit

pub bit_made : (x y : ℕ) → y ≡ x % 64 → (1 * 2 ^ y) % 18446744073709551616 ≡ bit_of x
unfolding bit_of
bit_made x y e =
    let l : x % 64 < 64 = mod-lt x (zero-lt-suc 63) in
    rw e (shl_exact 1 (x % 64) 64 (omega arith) (omega arith) ∙ one-mul (2 ^ (x % 64)))

pub has_bit : (x : ℕ) → has (bit_of x) x ≡ true
unfolding has bit_of
has_bit x =
    eq-eqb (2 ^ (x % 64) / 2 ^ (x % 64) % 2) 1
    (ap (λ (n : ℕ). n / 2 ^ (x % 64) % 2) (sym (one-mul (2 ^ (x % 64)))) ∙ ap (λ (n : ℕ). n % 2) (shl-shr 1 (x % 64)))

-- ---- masks joined, and what they share

or_one : (n : ℕ) → n < 2 → bit_or 1 n ≡ 1
or_one zero h = refl
or_one (suc zero) h = refl
or_one (suc (suc n)) h = absurd (omega arith)

pub has_first : (a b x : ℕ) → has a x ≡ true → has (bit_or a b) x ≡ true
unfolding has
has_first a b x h =
    eq-eqb (bit_or a b / 2 ^ (x % 64) % 2) 1
    (ap (λ (n : ℕ). n % 2) (or_shr a b (x % 64)) ∙ or_mod (a / 2 ^ (x % 64)) (b / 2 ^ (x % 64)) 1
    ∙ ap (λ (n : ℕ). bit_or n (b / 2 ^ (x % 64) % 2)) (eqb-true (a / 2 ^ (x % 64) % 2) 1 h)
    ∙ or_one (b / 2 ^ (x % 64) % 2) (mod-lt (b / 2 ^ (x % 64)) (zero-lt-suc 1)))

pub has_second : (a b x : ℕ) → has b x ≡ true → has (bit_or a b) x ≡ true
has_second a b x h = ap (λ (n : ℕ). has n x) (or_comm a b) ∙ has_first b a x h

pub no_common : (a b x : ℕ) → bit_and a b ≡ 0 → has a x ≡ true → has b x ≡ true → ⊥
unfolding has
no_common a b x e ha hb =
    let l : bit_and a b / 2 ^ (x % 64) ≤ bit_and a b = shr_le (bit_and a b) (x % 64) in
    let z : bit_and a b / 2 ^ (x % 64) ≡ 0 = omega arith in
    let s : bit_and a b / 2 ^ (x % 64) % 2 ≡ 1 =
    ap (λ (n : ℕ). n % 2) (and_shr a b (x % 64)) ∙ and_mod (a / 2 ^ (x % 64)) (b / 2 ^ (x % 64)) 1
    ∙ ap₂ bit_and (eqb-true (a / 2 ^ (x % 64) % 2) 1 ha) (eqb-true (b / 2 ^ (x % 64) % 2) 1 hb) in
    let o : ◌≡◌ {A = ℕ} 0 1 = ap (λ (n : ℕ). n % 2) (sym z) ∙ s in
    omega arith

-- ---- what is not set

unset : (b : Bool) → (b ≡ true → ⊥) → b ≡ false
unset true n = absurd (n refl)
unset false n = refl

-- a bit of one of two masks that share none is not in the other
pub has_not : (a b x : ℕ) → bit_and a b ≡ 0 → has a x ≡ true → has b x ≡ false
has_not a b x e h = unset (has b x) (λ g. no_common a b x e h g)

set_not : (b : Bool) → b ≡ true → b ≡ false → ⊥
set_not b h g = let z : true ≡ false = sym h ∙ g in let o : ◌≡◌ {A = ℕ} 0 1 = cc in omega arith

-- what is not in masks joined is in neither
pub not_first : (a b x : ℕ) → has (bit_or a b) x ≡ false → has a x ≡ false
not_first a b x h = unset (has a x) (λ g. set_not (has (bit_or a b) x) (has_first a b x g) h)

pub not_second : (a b x : ℕ) → has (bit_or a b) x ≡ false → has b x ≡ false
not_second a b x h = unset (has b x) (λ g. set_not (has (bit_or a b) x) (has_second a b x g) h)

-- another index than that of the bit
pub not_bit : (i x : ℕ) → has (bit_of i) x ≡ false → x ≡ i → ⊥
not_bit i x h e = set_not (has (bit_of i) x) (ap (λ (y : ℕ). has (bit_of i) y) e ∙ has_bit i) h
