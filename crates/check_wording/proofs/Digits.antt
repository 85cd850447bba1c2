-- Decimal digits: how many there are, and the last one after the others. Assumes nothing.
use mathlib.Core.Path.{◌≡◌, refl, ap}
use mathlib.Core.List.{[], ◌∷◌, ◌++◌}
use mathlib.Core.Bool.{Bool, true, false}
use Prim.Native.Nat.{ℕ, zero, suc, ◌*◌, ◌/◌, ◌%◌, ◌^◌, ◌≤◌, ◌<◌}
use native.Mathlib.Nat.{pow-suc}
use native.Mathlib.Omega.{arith}
use lib.Dec.{ltb}
use lib.ListN.{length, length-append}
use borrow.Author.Tests.{lt-ltb, le-ltb}
use Rattle.check_wording.specs.Wording.{digit, decimal_to, decimal}

tenth_below : (k n : ℕ) → n < 10 ^ suc (suc k) → n / 10 < 10 ^ suc k
tenth_below k n h =
    let p : n < 10 ^ suc k * 10 = rw (pow-suc 10 (suc k)) at h in
    omega arith

-- more digits than a number has change nothing
more_digits : (k n : ℕ) → n < 10 ^ suc k → decimal_to (suc k) n ≡ decimal_to k n
unfolding decimal_to
more_digits zero n h =
    let e : n % 10 ≡ n = omega arith in
    rw (lt-ltb n 10 h, e)
more_digits (suc k) n h = rw (more_digits k (n / 10) (tenth_below k n h))

-- one digit more than the tenth has
digits_step : (k n m : ℕ) → length (decimal_to k (n / 10)) ≤ m → length (decimal_to (suc k) n) ≤ suc m
unfolding decimal_to
digits_step k n m h = go (ltb n 10) refl
  where
    go : (b : Bool) → ltb n 10 ≡ b → length (decimal_to (suc k) n) ≤ suc m
    go true e = rw e (omega arith)
    go false e = rw (e, length-append) (omega arith)

digits_most : (k n : ℕ) → length (decimal_to k n) ≤ suc k
unfolding decimal_to
digits_most zero n = omega arith
digits_most (suc k) n = digits_step k n (suc k) (digits_most k (n / 10))

digits_below : (j k n : ℕ) → n < 10 ^ suc j → length (decimal_to k n) ≤ suc j
unfolding decimal_to
digits_below zero zero n h = omega arith
digits_below zero (suc k) n h = rw (lt-ltb n 10 h) (omega arith)
digits_below (suc j) zero n h = omega arith
digits_below (suc j) (suc k) n h = digits_step k n (suc j) (digits_below j k (n / 10) (tenth_below j n h))

pub decimal_few : (n : ℕ) → n < 10 → decimal n ≡ digit (n % 10) ∷ []
unfolding decimal_to
decimal_few n h =
    let e : n % 10 ≡ n = omega arith in
    rw (lt-ltb n 10 h, e)

pub decimal_more : (n : ℕ) → 10 ≤ n → n < 10 ^ 20 → decimal n ≡ decimal (n / 10) ++ digit (n % 10) ∷ []
unfolding decimal_to
decimal_more n l h = rw (le-ltb n 10 l, more_digits 18 (n / 10) (tenth_below 18 n h))

pub decimal_short : (n : ℕ) → length (decimal n) ≤ 20
decimal_short n = digits_most 19 n

pub decimal_below : (j n : ℕ) → n < 10 ^ suc j → length (decimal n) ≤ suc j
decimal_below j n h = digits_below j 19 n h

pub decimal_rest : (n : ℕ) → 10 ≤ n → n < 10 ^ 20 → length (decimal (n / 10)) ≤ 19
decimal_rest n l h = omega (arith, decimal_short n, ap length (decimal_more n l h), length-append (decimal (n / 10)) (digit (n % 10) ∷ []))
