-- A size of parts, a digit at a time. Assumes nothing.
use mathlib.Core.Path.{◌≡◌}
use mathlib.Core.Bool.{true, false}
use mathlib.Core.List.{List}
use Prim.Native.Nat.{ℕ, ◌+◌, ◌-◌, ◌*◌, ◌≤◌, ◌<◌}
use native.Mathlib.Omega.{arith}
use lib.ListN.{length, get_or, drop, drop_of_length-le}
use borrow.Author.Tests.{lt-ltb, le-ltb}
use Rattle.std.specs.Char.{is_ascii_digit}
use Rattle.std.proofs.lemmas.Bool.Decides.{nat_tests}
use Rattle.base_laws.proofs.Lists.{at_cons}
use Rattle.program_arguments.specs.Arguments.{size_from}

pub size_other : (n : ℕ) (w : List ℕ) (i : ℕ) → i < length w → is_ascii_digit (get_or w i 0) ≡ false → size_from n (drop i w) ≡ 0
unfolding size_from
size_other n w i h e = rw (at_cons w i h) (grind (arith, nat_tests))

pub size_large : (n : ℕ) (w : List ℕ) (i : ℕ) → i < length w → 65536 < n * 10 + (get_or w i 0 - 48) → size_from n (drop i w) ≡ 0
unfolding size_from
size_large n w i h k = rw (at_cons w i h, lt-ltb 65536 (n * 10 + (get_or w i 0 - 48)) k) (grind (arith, nat_tests))

pub size_next : (n : ℕ) (w : List ℕ) (i : ℕ) → i < length w → is_ascii_digit (get_or w i 0) ≡ true → n * 10 + (get_or w i 0 - 48) ≤ 65536
    → size_from n (drop i w) ≡ size_from (n * 10 + (get_or w i 0 - 48)) (drop (i + 1) w)
unfolding size_from
size_next n w i h e k = rw (at_cons w i h, le-ltb 65536 (n * 10 + (get_or w i 0 - 48)) k) (grind (arith, nat_tests))

pub size_end : (n : ℕ) (w : List ℕ) (i : ℕ) → length w ≤ i → size_from n (drop i w) ≡ n
unfolding size_from
size_end n w i h = rw (drop_of_length-le w h)
