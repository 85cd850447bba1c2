-- The kinds of effects, by the first byte. Assumes nothing.
use mathlib.Core.Path.{◌≡◌, refl}
use mathlib.Core.Bool.{Bool, true, false}
use Prim.Native.Nat.{ℕ}
use lib.Dec.{ltb}

-- the five kinds of effects, by the first byte
module _ (tag : ℕ) {P : Type 0} (p : ltb tag 8 ≡ true → P) (q : ltb tag 8 ≡ false → ltb tag 12 ≡ true → P)
    (r : ltb tag 8 ≡ false → ltb tag 12 ≡ false → ltb tag 15 ≡ true → P)
    (s : ltb tag 8 ≡ false → ltb tag 12 ≡ false → ltb tag 15 ≡ false → ltb tag 18 ≡ true → P)
    (t : ltb tag 8 ≡ false → ltb tag 12 ≡ false → ltb tag 15 ≡ false → ltb tag 18 ≡ false → P) where
  by_18 : ltb tag 8 ≡ false → ltb tag 12 ≡ false → ltb tag 15 ≡ false → (v : Bool) → ltb tag 18 ≡ v → P
  by_18 a b c true d = s a b c d
  by_18 a b c false d = t a b c d

  by_15 : ltb tag 8 ≡ false → ltb tag 12 ≡ false → (v : Bool) → ltb tag 15 ≡ v → P
  by_15 a b true c = r a b c
  by_15 a b false c = by_18 a b c (ltb tag 18) refl

  by_12 : ltb tag 8 ≡ false → (v : Bool) → ltb tag 12 ≡ v → P
  by_12 a true b = q a b
  by_12 a false b = by_15 a b (ltb tag 15) refl

  by_8 : (v : Bool) → ltb tag 8 ≡ v → P
  by_8 true a = p a
  by_8 false a = by_12 a (ltb tag 12) refl

  pub by_tag : P
  by_tag = by_8 (ltb tag 8) refl
