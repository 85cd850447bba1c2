-- Numerals to a base: powers, and how far one digit more goes. Assumes nothing.
use mathlib.Core.Path.{◌≡◌}
use Prim.Native.Nat.{ℕ, ◌+◌, ◌*◌, ◌^◌, ◌≤◌, ◌<◌}
use native.Mathlib.Nat.{add-mul, one-mul, mul_assoc, mul-le-mul_right, pow-suc, pow-le-pow_right}
use native.Mathlib.Numerals.{add-one}
use native.Mathlib.Omega.{arith}

pub power_next : (n i p : ℕ) → p ≡ n ^ i → p * n ≡ n ^ (i + 1)
power_next n i p e = rw (add-one i, pow-suc n i, e)

pub ten_to : (k m : ℕ) → k ≤ m → 10 ^ k ≤ 10 ^ m
ten_to k m h = pow-le-pow_right (omega arith) h

-- a digit i after acc: with p for the digits that follow
pub digit_below : (n acc i p : ℕ) → i < n → (acc * n + i + 1) * p ≤ (acc + 1) * (n * p)
digit_below n acc i p h =
    let k : acc * n + i + 1 ≤ (acc + 1) * n = rw (add-mul acc 1 n, one-mul n) (omega arith) in
    rw (← mul_assoc (acc + 1) n p) (mul-le-mul_right p k)
