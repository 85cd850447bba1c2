-- Lists by their places: what lies from a place on, and how long a part is. Assumes nothing.
use mathlib.Core.Path.{◌≡◌}
use mathlib.Core.List.{List, ◌∷◌, map}
use Prim.Native.Nat.{ℕ, ◌+◌, ◌≤◌, ◌<◌, min}
use native.Mathlib.Numerals.{add-one}
use native.Mathlib.Omega.{arith}
use native.Mathlib.Decide.{dec_le}
use lib.ListN.{length, get_or, take, drop, length-take, length-map}
use lib.Seq.{drop-cons, take-take, take_all}

-- what lies from p on: one element, and those from p + 1 on
pub at_cons : (s : List ℕ) (p : ℕ) → p < length s → drop p s ≡ get_or s p 0 ∷ drop (p + 1) s
at_cons s p h = rw (add-one, drop-cons s p 0)

pub take_min : (n m : ℕ) (l : List ℕ) → take n (take m l) ≡ take (min n m) l
take_min n m l = elim (dec_le n m) [
  | yes k ↦ let e : min n m ≡ n = omega arith in rw (e, take-take n m l k)
  | no k ↦
      let e : min n m ≡ m = omega arith in
      let b : length (take m l) ≤ n = simp length-take (omega arith) in
      rw (e, take_all n (take m l) b)
]

pub taken_length : {X Y : Type 0} (f : X → Y) (n : ℕ) (xs : List X) → n ≤ length xs → length (map f (take n xs)) ≡ n
taken_length f n xs h = simp (length-map, length-take) (omega arith)
