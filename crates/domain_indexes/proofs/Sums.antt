-- Powers and their sums, a step at a time. Assumes nothing.
use mathlib.Core.Path.{◌≡◌, refl, sym, ap}
use mathlib.Core.List.{[], ◌∷◌}
use Prim.Native.Nat.{ℕ, zero, suc, ◌+◌, ◌-◌, ◌*◌, ◌^◌, ◌≤◌, ◌<◌}
use native.Mathlib.Nat.{add-zero, pow-le-pow_left, pow-le-pow_right, le_trans, mul-le-mul}
use native.Mathlib.Numerals.{add-one}
use native.Mathlib.Omega.{arith}
use lib.ListN.{length, get_or}
use Rattle.domain_meaning.specs.Tables.{Table, entry_at}
use Rattle.domain_meaning.specs.Indexes.{arity, sum_of, bases_from, bases_of}
use Rattle.domain_indexes.specs.Firsts.{first_of}

-- 64 to the power i bounds n to the power i
pub power_most : (n i p m : ℕ) → n ≤ 64 → i ≤ m → p ≡ n ^ i → p ≤ 64 ^ m
power_most n i p m h k e = rw e (le_trans (pow-le-pow_left h i) (pow-le-pow_right (omega arith) k))

pub product_most : (p n : ℕ) → p ≤ 262144 → n ≤ 64 → p * n ≤ 16777216
product_most p n h k = mul-le-mul h k

pub first_zero : (n : ℕ) (t : Table) → first_of n t 0 ≡ 0
unfolding first_of
first_zero n [] = refl
first_zero n (e ∷ t) = refl

first_suc : (t : Table) (j n : ℕ) → j < length t → first_of n t (suc j) ≡ first_of n t j + n ^ arity (entry_at t j)
unfolding first_of
first_suc [] j n h = absurd (let z : ⊥ = omega arith in z)
first_suc (e ∷ t) zero n h = omega (arith, first_zero n t)
first_suc (e ∷ t) (suc j) n h = omega (arith, first_suc t j n (omega arith))

pub first_next : (n : ℕ) (t : Table) (j : ℕ) → j < length t → first_of n t (j + 1) ≡ first_of n t j + n ^ arity (entry_at t j)
first_next n t j h = rw (add-one j) (first_suc t j n h)

pub first_all : (n : ℕ) (t : Table) → first_of n t (length t) ≡ sum_of n t
unfolding first_of sum_of
first_all n [] = refl
first_all n (e ∷ t) = ap (λ (k : ℕ). n ^ arity e + k) (first_all n t)

-- no first index is above the sum
pub first_low : (n : ℕ) (t : Table) (i : ℕ) → i ≤ length t → first_of n t i ≤ sum_of n t
unfolding first_of sum_of
first_low n t zero h = omega (arith, first_zero n t)
first_low n [] (suc i) h = absurd (let z : ⊥ = omega arith in z)
first_low n (e ∷ t) (suc i) h = omega (arith, first_low n t i (omega arith))

-- ---- the first indexes of all names, as a list

pub length_bases : (n sum : ℕ) (t : Table) → length (bases_from n sum t) ≡ length t
unfolding bases_from
length_bases n sum [] = refl
length_bases n sum (e ∷ t) = ap suc (length_bases n (sum + n ^ arity e) t)

behind_sum : (n sum : ℕ) (t : Table) (i : ℕ) → i < length t → get_or (bases_from n sum t) i 0 ≡ sum + first_of n t i
unfolding bases_from first_of
behind_sum n sum [] i h = absurd (let z : ⊥ = omega arith in z)
behind_sum n sum (e ∷ t) zero h = sym (add-zero sum)
behind_sum n sum (e ∷ t) (suc i) h = omega (arith, behind_sum n (sum + n ^ arity e) t i (omega arith))

-- at place i stands the first index of number i
pub base_first : (n : ℕ) (t : Table) (i : ℕ) → i < length t → get_or (bases_of n t) i 0 ≡ first_of n t i
base_first n t i h = omega (arith, behind_sum n 0 t i h)
