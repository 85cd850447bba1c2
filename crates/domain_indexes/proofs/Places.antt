-- First indexes stored one by one. Assumes nothing.
use mathlib.Core.Path.{◌≡◌}
use mathlib.Core.List.{List, [], ◌∷◌}
use Prim.Native.Nat.{ℕ, ◌+◌, ◌≤◌, ◌<◌}
use native.Mathlib.Nat.{add-zero, add-suc}
use native.Mathlib.Numerals.{add-one}
use lib.ListN.{length, set, drop, drop_of_length-le}
use lib.Seq.{sets, drop-cons}
use Rattle.domain_meaning.specs.Tables.{Table, entry}
use Rattle.domain_meaning.specs.Indexes.{bases_from, bases_of}
use Rattle.domain_indexes.specs.Firsts.{first_of}
use Rattle.domain_indexes.proofs.Sums.{first_zero, first_next}

pub bases_start : (out : List ℕ) (at n : ℕ) (t : Table) → sets out (at + 0) (bases_from n (first_of n t 0) (drop 0 t)) ≡ sets out at (bases_of n t)
bases_start out at n t = rw (first_zero n t, add-zero at)

-- the first index of number i, and those after it
bases_cons : (n : ℕ) (t : Table) (i : ℕ) → i < length t → bases_from n (first_of n t i) (drop i t) ≡ first_of n t i
    ∷ bases_from n (first_of n t (i + 1)) (drop (i + 1) t)
unfolding bases_from
bases_cons n t i h = rw (drop-cons t i (entry [] []) h, first_next n t i h, add-one i)

-- the rest of them, stored from the next place on
pub bases_step : (out : List ℕ) (at n : ℕ) (t : Table) (i x : ℕ) → i < length t → x ≡ first_of n t i
    → sets (set out (at + i) x) (at + (i + 1)) (bases_from n (first_of n t (i + 1)) (drop (i + 1) t)) ≡ sets out (at + i) (bases_from n (first_of n t i) (drop i t))
bases_step out at n t i x h e = rw (bases_cons n t i h, e, add-one i, add-suc at i)

pub bases_end : (out : List ℕ) (at n : ℕ) (t : Table) (i : ℕ) → length t ≤ i → sets out (at + i) (bases_from n (first_of n t i) (drop i t)) ≡ out
unfolding bases_from
bases_end out at n t i h = rw (drop_of_length-le t h)
