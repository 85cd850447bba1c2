-- The number that cells give back is the one they were made of. Assumes nothing.
use mathlib.Core.Path.{◌≡◌, refl, sym, ◌∙◌}
use mathlib.Core.List.{List, ◌++◌}
use mathlib.Core.Bool.{Bool, true, false, cond, ◌&&◌, beq}
use Prim.Native.Nat.{ℕ, zero, suc, ◌+◌, ◌-◌, ◌*◌, ◌/◌, ◌%◌, ◌^◌, ◌≤◌, ◌<◌}
use native.Mathlib.Nat.{mod-add-div, pow-succ'}
use native.Mathlib.Omega.{arith}
use native.Mathlib.Decide.{dec_le, ℕ_discrete}
use lib.Dec.{eqb}
use lib.IntN.{ℤ, pos, negsuc, nat_abs, ◌-ℤ◌}
use lib.Seq.{take_at}
use lib.Signed.{mag, lt_z}
use borrow.Author.Tests.{lt-ltb, le-ltb, eqb-true}
use Rattle.base_laws.proofs.Splits.{and_left, and_right}
use Rattle.text_words.proofs.Ranges.{holds, holds_at}
use Rattle.domain_literals.specs.Literal.{sign_base, size_of, bytes_of, literal, number_cells, little_of, size_in, is_negative, is_whole, number_in}
use Rattle.domain_literals.proofs.Cells.{bytes_length, abs_most, cells_whole, cells_fine}

-- ---- the bytes

little_back : (k v : ℕ) → v < 256 ^ k → little_of (bytes_of k v) ≡ v
unfolding little_of bytes_of
little_back zero v h = omega arith
little_back (suc k) v h =
    let p : 256 ^ suc k ≡ 256 * 256 ^ k = pow-succ' 256 k in
    let e = mod-add-div v 256 in
    let b : v / 256 < 256 ^ k = omega (arith, p, e) in
    rw (little_back k (v / 256) b) e

pub record Fitting (v k : ℕ) : Type 0 where
  pub below : v < 256 ^ k
  pub few : k ≤ 5

size_fits : (v : ℕ) → v < 1099511627776 → Fitting v (size_of v)
unfolding size_of
size_fits v h = elim (dec_le v 0) [
  | yes a ↦ rw (lt-ltb v 1 (omega arith)) (record { below = omega arith; few = omega arith })
  | no a ↦ rw (le-ltb v 1 (omega arith)) (elim (dec_le v 255) [
    | yes b ↦ rw (lt-ltb v 256 (omega arith)) (record { below = omega arith; few = omega arith })
    | no b ↦ rw (le-ltb v 256 (omega arith)) (elim (dec_le v 65535) [
      | yes c ↦ rw (lt-ltb v 65536 (omega arith)) (record { below = omega arith; few = omega arith })
      | no c ↦ rw (le-ltb v 65536 (omega arith)) (elim (dec_le v 16777215) [
        | yes d ↦ rw (lt-ltb v 16777216 (omega arith)) (record { below = omega arith; few = omega arith })
        | no d ↦ rw (le-ltb v 16777216 (omega arith)) (elim (dec_le v 4294967295) [
          | yes e ↦ rw (lt-ltb v 4294967296 (omega arith)) (record { below = omega arith; few = omega arith })
          | no e ↦ rw (le-ltb v 4294967296 (omega arith)) (record { below = omega arith; few = omega arith })
        ])
      ])
    ])
  ])
]

-- ---- the first cell: what it says of itself, for each of the six sizes

abbrev says : ℕ → Bool → Bool → ℕ → Bool
says base n w k = eqb (size_in (base + k)) k && (beq (is_negative (base + k)) n && beq (is_whole (base + k)) w)

same : (a b : Bool) → beq a b ≡ true → a ≡ b
same true true h = refl
same true false h = sym h
same false true h = h
same false false h = refl

record Tagged (base : ℕ) (n w : Bool) (k : ℕ) : Type 0 where
  size : size_in (base + k) ≡ k
  negative : is_negative (base + k) ≡ n
  whole : is_whole (base + k) ≡ w

tagged : (base : ℕ) (n w : Bool) (k : ℕ) → holds (says base n w) 0 6 ≡ true → k ≤ 5 → Tagged base n w k
tagged base n w k h few =
    let t = holds_at 6 (says base n w) 0 k h (omega arith) (omega arith) in
    let u = and_right (eqb (size_in (base + k)) k) _ t in
    record {
      size = eqb-true (size_in (base + k)) k (and_left (eqb (size_in (base + k)) k) _ t);
      negative = same (is_negative (base + k)) n (and_left (beq (is_negative (base + k)) n) _ u);
      whole = same (is_whole (base + k)) w (and_right (beq (is_negative (base + k)) n) _ u);
    }

-- a literal gives its value back, whatever stands after it
literal_back : (base : ℕ) (n w : Bool) (v : ℕ) (rest : List ℕ) → holds (says base n w) 0 6 ≡ true → v < 1099511627776
    → number_in (literal base v ++ rest) ≡ cond n (pos 0 -ℤ pos (cond w (v * 1000) v)) (pos (cond w (v * 1000) v))
unfolding number_in
literal_back base n w v rest h b =
    let f = size_fits v b in
    let g = tagged base n w (size_of v) h f.few in
    rw (g.negative, g.whole, g.size, take_at (bytes_of (size_of v) v) rest (size_of v) (bytes_length (size_of v) v), little_back (size_of v) v f.below)

-- ---- the sign

signed_back : (z : ℤ) → cond (lt_z z (pos 0)) (pos 0 -ℤ pos (nat_abs z)) (pos (nat_abs z)) ≡ z
signed_back (pos n) = rw (le-ltb n 0 (omega arith))
signed_back (negsuc n) = let e : suc n - suc 0 ≡ n = omega arith in rw (lt-ltb 0 (suc n) (omega arith), e)

whole_back : (m : ℕ) → m % 1000 ≡ 0 → m / 1000 * 1000 ≡ m
whole_back m h = omega (arith, mod-add-div m 1000)

-- the number that a number's cells give back
pub number_back : (z : ℤ) (rest : List ℕ) → mag z < 1099511627775 → number_in (number_cells z ++ rest) ≡ z
unfolding sign_base
number_back z rest h = elim (ℕ_discrete (nat_abs z % 1000) 0) [
  | yes e ↦ rw (cells_whole z e) (whole (lt_z z (pos 0)) refl e)
  | no e ↦ rw (cells_fine z e) (fine (lt_z z (pos 0)) refl)
]
  where
    most : nat_abs z ≤ 1099511627775
    most = abs_most z 1099511627775 h

    whole : (t : Bool) → lt_z z (pos 0) ≡ t → nat_abs z % 1000 ≡ 0 → number_in (literal (cond t 24 16 + 16) (nat_abs z / 1000) ++ rest) ≡ z
    whole true q e = literal_back 40 true true (nat_abs z / 1000) rest refl (omega (arith, mod-add-div (nat_abs z) 1000, most))
        ∙ rw (whole_back (nat_abs z) e) (rw q at (signed_back z))
    whole false q e = literal_back 32 false true (nat_abs z / 1000) rest refl (omega (arith, mod-add-div (nat_abs z) 1000, most))
        ∙ rw (whole_back (nat_abs z) e) (rw q at (signed_back z))

    fine : (t : Bool) → lt_z z (pos 0) ≡ t → number_in (literal (cond t 24 16) (nat_abs z) ++ rest) ≡ z
    fine true q = literal_back 24 true false (nat_abs z) rest refl (omega (arith, most)) ∙ (rw q at (signed_back z))
    fine false q = literal_back 16 false false (nat_abs z) rest refl (omega (arith, most)) ∙ (rw q at (signed_back z))
