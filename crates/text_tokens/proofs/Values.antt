-- The values of digits: how large they grow, and the ways of reading a number. Assumes nothing.
use Rattle.std.specs.Prelude.{None, Some}
use mathlib.Core.Path.{◌≡◌, refl, sym, ◌∙◌}
use mathlib.Core.List.{List, [], ◌∷◌}
use mathlib.Core.Bool.{Bool, true, false, cond, ◌&&◌, ◌||◌}
use Prim.Native.Nat.{ℕ, suc, ◌+◌, ◌-◌, ◌*◌, ◌^◌, ◌≤◌, ◌<◌}
use native.Mathlib.Nat.{le_trans, pow-succ', mul-le-mul}
use native.Mathlib.Numerals.{add-one}
use native.Mathlib.Omega.{arith}
use native.Mathlib.Decide.{dec_le}
use lib.ListN.{length, get_or, take, drop, length-take}
use lib.Seq.{drop-drop}
use lib.Dec.{eqb, leb}
use borrow.Author.Tests.{lt-leb, le-leb, leb-true}
use Rattle.base_laws.proofs.Splits.{and_right, and_three}
use Rattle.base_laws.proofs.Numerals.{ten_to, digit_below}
use Rattle.base_laws.proofs.Lists.{at_cons}
use Rattle.text_words.specs.Bytes.{bytes, kind_of, is_digit, between, is_one_of}
use Rattle.text_words.specs.declared.bytes.Kind.TheVariants as K
use Rattle.text_tokens.specs.Runs.{part}
use Rattle.text_tokens.specs.Numbers.{leading, digits_end, decimal, scale_of, fraction_of, rest_of, number_from, Small}
use Rattle.text_tokens.proofs.Steps.{leading_most}

-- ---- the loop over digits

pub decimal_next : (w : List ℕ) (v at to : ℕ) → at < to → to ≤ length w → decimal v (part w at to) ≡ decimal (v * 10 + (get_or w at 0 - 48)) (part w (at + 1) to)
unfolding decimal
decimal_next w v at to h k =
    let e : to - at ≡ suc (to - (at + 1)) = omega arith in
    rw (at_cons w at (omega arith), e)

pub decimal_end : (w : List ℕ) (v at to : ℕ) → to ≤ at → decimal v (part w at to) ≡ v
unfolding decimal
decimal_end w v at to h = let q : to - at ≡ 0 = omega arith in rw q

-- a byte less 48 is at most 207, whatever the byte: so k of them stay below 23 times 10 to the k
pub grows : (v d k : ℕ) → v + 23 ≤ 23 * 10 ^ k → d < 208 → v * 10 + d + 23 ≤ 23 * 10 ^ (k + 1)
grows v d k h l = rw (add-one k, pow-succ' 10 k) (omega arith)

-- ---- the ways of reading a number

module _ (whole : ℕ) (ds : List ℕ) where
  pub fraction_none : length ds ≡ 0 → None ≡ fraction_of whole ds
  unfolding fraction_of
  fraction_none h = rw h

  pub fraction_fine : 3 < length ds → None ≡ fraction_of whole ds
  unfolding fraction_of
  fraction_fine h = let k : 1 ≤ length ds = omega arith in rw (le-leb 1 (length ds) k, lt-leb (length ds) 3 h)

  pub fraction_other : 1 ≤ length ds → length ds ≤ 3 → leading ds < length ds → None ≡ fraction_of whole ds
  unfolding fraction_of
  fraction_other h k l = rw (le-leb 1 (length ds) h, le-leb (length ds) 3 k, lt-leb (length ds) (leading ds) l)

  pub fraction_read : 1 ≤ length ds → length ds ≤ 3 → length ds ≤ leading ds
      → Some (whole * 1000 + decimal 0 ds * scale_of (length ds)) ≡ fraction_of whole ds
  unfolding fraction_of
  fraction_read h k l = rw (le-leb 1 (length ds) h, le-leb (length ds) 3 k, le-leb (length ds) (leading ds) l)

pub number_none : (l : List ℕ) → leading l ≡ 0 → None ≡ number_from l
unfolding number_from
number_none l h = rw h

pub number_large : (l : List ℕ) → 9 < leading l → None ≡ number_from l
unfolding number_from
number_large l h = let k : 1 ≤ leading l = omega arith in rw (le-leb 1 (leading l) k, lt-leb (leading l) 9 h)

-- 1 to 9 digits stand from `from` to `end`
pub number_read : (w : List ℕ) (from end whole : ℕ) → end ≡ digits_end w from → 1 ≤ end - from → end - from ≤ 9
    → whole ≡ decimal 0 (part w from end) → number_from (drop from w) ≡ rest_of whole (drop end w)
unfolding number_from digits_end
number_read w from end whole e lo hi v =
    let n : leading (drop from w) ≡ end - from = omega arith in
    let back : from + (end - from) ≡ end = omega arith in
    rw (n, le-leb 1 (end - from) lo, le-leb (end - from) 9 hi, drop-drop (end - from) from w, back, v)

-- ---- "1 to 9 digits, perhaps a point and 1 to 3 digits": below 1,000,000,000,000 thousandths

never_digit : (a b c d : Bool) → is_digit (cond a K.Letter (cond b K.Bracket (cond c K.White (cond d K.Mark K.Refused)))) ≡ false
never_digit true b c d = refl
never_digit false true c d = refl
never_digit false false true d = refl
never_digit false false false true = refl
never_digit false false false false = refl

pub digit_most : (b : ℕ) → is_digit (kind_of b) ≡ true → b - 48 ≤ 9
unfolding kind_of
digit_most b h = elim (dec_le b 57) [
  | yes k ↦ omega arith
  | no k ↦ absurd (clash (rw (le-leb 48 b (omega arith), lt-leb b 57 (omega arith)) at h))
]
  where
    clash : is_digit (cond (between 65 b 90 || between 97 b 122) K.Letter
        (cond (is_one_of b (bytes "()[]")) K.Bracket (cond (is_one_of b (9 ∷ 10 ∷ 13 ∷ 32 ∷ [])) K.White (cond (between 33 b 126) K.Mark K.Refused)))) ≡ true → ⊥
    clash e =
        let z : ◌≡◌ {A = Bool} false true = sym (never_digit (between 65 b 90 || between 97 b 122) (is_one_of b (bytes "()[]"))
        (is_one_of b (9 ∷ 10 ∷ 13 ∷ 32 ∷ [])) (between 33 b 126)) ∙ e in
        let y : ◌≡◌ {A = ℕ} 0 1 = cc in omega arith

-- digits all through
record Digits (b : ℕ) (bs : List ℕ) : Type 0 where
  front : b - 48 ≤ 9
  back : leading bs ≡ length bs

digits_cons : (b : ℕ) (bs : List ℕ) → leading (b ∷ bs) ≡ length (b ∷ bs) → Digits b bs
unfolding leading
digits_cons b bs h = go (is_digit (kind_of b)) refl h
  where
    go : (t : Bool) → is_digit (kind_of b) ≡ t → cond t (suc (leading bs)) 0 ≡ suc (length bs) → Digits b bs
    go true e k = record { front = digit_most b e; back = omega arith }
    go false e k = absurd (let y : ⊥ = omega arith in y)

pub decimal_most : (l : List ℕ) (v : ℕ) → leading l ≡ length l → decimal v l + 1 ≤ (v + 1) * 10 ^ length l
unfolding decimal
decimal_most [] v h = omega arith
decimal_most (b ∷ bs) v h =
    let d = digits_cons b bs h in
    let i : b - 48 < 10 = omega (arith, d.front) in
    rw (pow-succ' 10 (length bs)) (le_trans (decimal_most bs (v * 10 + (b - 48)) d.back) (digit_below 10 v (b - 48) (10 ^ length bs) i))

pub leading_front : (l : List ℕ) → leading (take (leading l) l) ≡ length (take (leading l) l)
unfolding leading
leading_front [] = refl
leading_front (b ∷ bs) = go (is_digit (kind_of b)) refl (leading_front bs)
  where
    go : (t : Bool) → is_digit (kind_of b) ≡ t → leading (take (leading bs) bs) ≡ length (take (leading bs) bs)
        → leading (take (cond t (suc (leading bs)) 0) (b ∷ bs)) ≡ length (take (cond t (suc (leading bs)) 0) (b ∷ bs))
    go true e k = rw (e, k)
    go false e k = refl

-- decimals, n of them, count less than a whole
pub scaled : (n v : ℕ) → 1 ≤ n → n ≤ 3 → v + 1 ≤ 10 ^ n → v * scale_of n ≤ 999
unfolding scale_of
scaled n v lo hi h = elim (dec_le n 1) [
  | yes k ↦ let e : n ≡ 1 = omega arith in rw e (let b : v + 1 ≤ 10 = rw e at h in omega arith)
  | no k ↦ elim (dec_le n 2) [
    | yes j ↦ let e : n ≡ 2 = omega arith in rw e (let b : v + 1 ≤ 100 = rw e at h in omega arith)
    | no j ↦ let e : n ≡ 3 = omega arith in rw e (let b : v + 1 ≤ 1000 = rw e at h in omega arith)
  ]
]

fraction_small : (whole : ℕ) (ds : List ℕ) → whole < 1000000000 → Small (fraction_of whole ds)
unfolding fraction_of
fraction_small whole ds w = go (between 1 (length ds) 3 && leb (length ds) (leading ds)) refl
  where
    go : (t : Bool) → (between 1 (length ds) 3 && leb (length ds) (leading ds)) ≡ t
        → Small (cond t (Some (whole * 1000 + decimal 0 ds * scale_of (length ds))) None)
    go false e = tt
    go true e =
        let t = and_three (leb 1 (length ds)) (leb (length ds) 3) (leb (length ds) (leading ds)) e in
        let lo = leb-true 1 (length ds) t.0 in
        let hi = leb-true (length ds) 3 t.1 in
        let all : leading ds ≡ length ds = omega (arith, leb-true (length ds) (leading ds) t.2, leading_most ds) in
        let v : decimal 0 ds + 1 ≤ 10 ^ length ds = omega (arith, decimal_most ds 0 all) in
        omega (arith, scaled (length ds) (decimal 0 ds) lo hi v)

rest_small : (whole : ℕ) (l : List ℕ) → whole < 1000000000 → Small (rest_of whole l)
rest_small whole [] w = omega arith
rest_small whole (b ∷ ds) w = go (eqb b 46)
  where
    go : (t : Bool) → Small (cond t (fraction_of whole ds) None)
    go true = fraction_small whole ds w
    go false = tt

pub number_small : (l : List ℕ) → Small (number_from l)
unfolding number_from
number_small l = go (between 1 (leading l) 9) refl
  where
    go : (t : Bool) → between 1 (leading l) 9 ≡ t → Small (cond t (rest_of (decimal 0 (take (leading l) l)) (drop (leading l) l)) None)
    go false e = tt
    go true e =
        let hi = leb-true (leading l) 9 (and_right (leb 1 (leading l)) (leb (leading l) 9) e) in
        let n : length (take (leading l) l) ≡ leading l = simp length-take (omega (arith, leading_most l)) in
        let m = rw n at (decimal_most (take (leading l) l) 0 (leading_front l)) in
        rest_small (decimal 0 (take (leading l) l)) (drop (leading l) l) (omega (arith, m, ten_to (leading l) 9 hi))

-- decimals that count, as the code multiplies them
pub product_most : (v c : ℕ) → v < 230000000000 → c < 101 → v * c ≤ 23230000000000
product_most v c h k =
    let a : v ≤ 230000000000 = omega arith in
    let b : c ≤ 101 = omega arith in
    mul-le-mul a b
