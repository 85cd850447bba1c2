-- A number takes at most one cell more than its token has bytes. Assumes nothing.
use mathlib.Core.Path.{◌≡◌, refl, sym, ap, ◌∙◌}
use mathlib.Core.List.{List}
use mathlib.Core.Bool.{Bool, true, false, cond, true≢false}
use Prim.Native.Nat.{ℕ, zero, suc, ◌+◌, ◌-◌, ◌*◌, ◌/◌, ◌%◌, ◌^◌, ◌≤◌, ◌<◌}
use native.Mathlib.Omega.{arith}
use native.Mathlib.Decide.{dec_le}
use lib.Dec.{eqb, ltb}
use lib.IntN.{ℤ, pos, nat_abs}
use lib.ListN.{length}
use lib.Signed.{mag}
use borrow.Author.Tests.{lt-ltb, eq-eqb}
use Rattle.text_tokens.specs.Runs.{part}
use Rattle.text_tokens.specs.Numbers.{signed}
use Rattle.text_tokens.specs.Tokens.{token_at}
use Rattle.text_tokens.specs.declared.tokens.Token.TheVariants as T
use Rattle.text_tokens.proofs.Valued.{Extent, wholes, parts, number_value, number_reads}
use Rattle.text_tokens.proofs.Within.{Within, token_in, part_length}
use Rattle.domain_literals.specs.Literal.{sign_base, size_of, literal, number_cells}
use Rattle.domain_literals.proofs.Cells.{turned_mag, literal_length}

-- ---- how many bytes a number takes

module _ (v : ℕ) where
  pub size_all : size_of v ≤ 5
  unfolding size_of
  size_all = go (ltb v 1) (ltb v 256) (ltb v 65536) (ltb v 16777216) (ltb v 4294967296)
    where
      go : (a b c d e : Bool) → cond a 0 (cond b 1 (cond c 2 (cond d 3 (cond e 4 5)))) ≤ 5
      go true b c d e = omega arith
      go false true c d e = omega arith
      go false false true d e = omega arith
      go false false false true e = omega arith
      go false false false false true = omega arith
      go false false false false false = omega arith

  size_1 : v < 256 → size_of v ≤ 1
  unfolding size_of
  size_1 h = rw (lt-ltb v 256 h) (go (ltb v 1))
    where
      go : (a : Bool) → cond a 0 1 ≤ 1
      go true = omega arith
      go false = omega arith

  size_2 : v < 65536 → size_of v ≤ 2
  unfolding size_of
  size_2 h = rw (lt-ltb v 65536 h) (go (ltb v 1) (ltb v 256))
    where
      go : (a b : Bool) → cond a 0 (cond b 1 2) ≤ 2
      go true b = omega arith
      go false true = omega arith
      go false false = omega arith

  size_3 : v < 16777216 → size_of v ≤ 3
  unfolding size_of
  size_3 h = rw (lt-ltb v 16777216 h) (go (ltb v 1) (ltb v 256) (ltb v 65536))
    where
      go : (a b c : Bool) → cond a 0 (cond b 1 (cond c 2 3)) ≤ 3
      go true b c = omega arith
      go false true c = omega arith
      go false false true = omega arith
      go false false false = omega arith

-- wholes of n digits take at most n bytes
whole_size : (n v : ℕ) → 1 ≤ n → v + 1 ≤ 10 ^ n → size_of v ≤ n
whole_size n v lo h = elim (dec_le n 1) [
  | yes k ↦ let e : n ≡ 1 = omega arith in let b : v + 1 ≤ 10 = rw e at h in omega (arith, size_1 v (omega arith))
  | no k ↦ elim (dec_le n 2) [
    | yes j ↦ let e : n ≡ 2 = omega arith in let b : v + 1 ≤ 100 = rw e at h in omega (arith, size_1 v (omega arith))
    | no j ↦ elim (dec_le n 3) [
      | yes i ↦ let e : n ≡ 3 = omega arith in let b : v + 1 ≤ 1000 = rw e at h in omega (arith, size_2 v (omega arith))
      | no i ↦ elim (dec_le n 4) [
        | yes g ↦ let e : n ≡ 4 = omega arith in let b : v + 1 ≤ 10000 = rw e at h in omega (arith, size_2 v (omega arith))
        | no g ↦ omega (arith, size_all v)
      ]
    ]
  ]
]

-- thousandths after a point, n bytes with it
fine_size : (n v : ℕ) → 3 ≤ n → v + 1 ≤ 10 * 10 ^ n → size_of v ≤ n
fine_size n v lo h = elim (dec_le n 3) [
  | yes i ↦ let e : n ≡ 3 = omega arith in let b : v + 1 ≤ 10 * 1000 = rw e at h in omega (arith, size_2 v (omega arith))
  | no i ↦ elim (dec_le n 4) [
    | yes g ↦ let e : n ≡ 4 = omega arith in let b : v + 1 ≤ 10 * 10000 = rw e at h in omega (arith, size_3 v (omega arith))
    | no g ↦ omega (arith, size_all v)
  ]
]

-- ---- its cells

cells_most : (z : ℤ) (n : ℕ) → Extent n (nat_abs z) → length (number_cells z) ≤ n + 1
unfolding number_cells
cells_most z n (wholes v e h lo) = go (eqb (nat_abs z % 1000) 0) refl
  where
    go : (t : Bool) → eqb (nat_abs z % 1000) 0 ≡ t → length (cond t (literal (sign_base z + 16) (nat_abs z / 1000)) (literal (sign_base z) (nat_abs z))) ≤ n + 1
    go true q =
        let w : nat_abs z / 1000 ≡ v = omega arith in
        omega (arith, literal_length (sign_base z + 16) (nat_abs z / 1000), ap size_of w, whole_size n v lo h)
    go false q = absurd (true≢false (sym (eq-eqb (nat_abs z % 1000) 0 (omega arith)) ∙ q))
cells_most z n (parts lo h) = go (eqb (nat_abs z % 1000) 0)
  where
    go : (t : Bool) → length (cond t (literal (sign_base z + 16) (nat_abs z / 1000)) (literal (sign_base z) (nat_abs z))) ≤ n + 1
    go true = omega (arith, literal_length (sign_base z + 16) (nat_abs z / 1000), fine_size n (nat_abs z / 1000) lo (omega arith))
    go false = omega (arith, literal_length (sign_base z) (nat_abs z), fine_size n (nat_abs z) lo h)

abs_signed : (minus : Bool) (m : ℕ) → nat_abs (signed minus m) ≡ m
abs_signed true zero = refl
abs_signed true (suc m) = let e : suc m - suc 0 ≡ m = omega arith in rw (lt-ltb 0 (suc m) (omega arith), e)
abs_signed false m = refl

mag_signed : (minus : Bool) (m k : ℕ) → m < k → mag (signed minus m) < k + 1
mag_signed true m k h = turned_mag (pos m) k h
mag_signed false m k h = omega arith

of_signed : (minus : Bool) (m n : ℕ) (z : ℤ) → z ≡ signed minus m → Extent n m → m < 1000000000000 → (length (number_cells z) ≤ n + 1)
    × (mag z < 1000000000000 + 1)
of_signed minus m n z e x h =
    (cells_most z n (rw (e, abs_signed minus m) x), rw e (mag_signed minus m 1000000000000 h))

-- where the token of a number lies, and the room that it needs
pub numeral_fits : (s : List ℕ) (at : ℕ) (z : ℤ) (p e : ℕ) → token_at s at ≡ T.Number z p e
    → (at < e) × (e ≤ length s) × (length (number_cells z) + at ≤ e + 1) × (mag z < 1099511627775)
unfolding Within
numeral_fits s at z p e q =
    let w = rw q at (token_in s at) in
    let r = number_reads (part s p e) z (number_value s at z p e q) in
    let most = of_signed r.minus r.size r.bytes z r.is r.extent r.small in
    let long = part_length s p e w.2 in
    (omega (arith, w.0, w.1), w.2, omega (arith, w.0, w.1, r.within, most.0), omega (arith, most.1))
