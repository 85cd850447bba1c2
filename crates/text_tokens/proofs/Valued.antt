-- What the token of a number says of its bytes, and how large a number of so many bytes is. Assumes nothing.
use Rattle.std.specs.Prelude.{None, Option, Some}
use mathlib.Core.Path.{◌≡◌, refl, sym}
use mathlib.Core.List.{List, [], ◌∷◌}
use mathlib.Core.Bool.{Bool, true, false, cond, ◌&&◌}
use Prim.Native.Nat.{ℕ, suc, ◌+◌, ◌*◌, ◌^◌, ◌≤◌, ◌<◌}
use native.Mathlib.Nat.{pow-succ'}
use native.Mathlib.Omega.{arith}
use lib.ListN.{length, get_or, take, drop, length-take, length-drop}
use lib.Dec.{eqb, leb, ltb}
use borrow.Author.Tests.{leb-true}
use lib.IntN.{ℤ}
use Rattle.base_laws.proofs.Splits.{and_three}
use Rattle.base_laws.proofs.Numerals.{ten_to}
use Rattle.text_words.specs.Bytes.{kind_of, on_start, between}
use Rattle.text_words.specs.Fixed.{is_listed}
use Rattle.text_words.specs.declared.bytes.Kind.{Kind}
use Rattle.text_words.specs.declared.bytes.Kind.TheVariants as K
use Rattle.text_tokens.specs.Runs.{part, gap_end}
use Rattle.text_tokens.specs.Numbers.{leading, decimal, scale_of, fraction_of, rest_of, number_from, signed, with_sign, number_of}
use Rattle.text_tokens.specs.Classes.{begun_by, class_of}
use Rattle.text_tokens.specs.Tokens.{sized_of, as_token, number_token, by_class, domain_word, is_past, bracket_of, domain_run, end_of, token_from, token_at}
use Rattle.text_tokens.specs.declared.classes.Class.{Class}
use Rattle.text_tokens.specs.declared.classes.Class.TheVariants as C
use Rattle.text_tokens.specs.declared.tokens.Word.{Word}
use Rattle.text_tokens.specs.declared.tokens.Word.TheVariants as W
use Rattle.text_tokens.specs.declared.tokens.Token.{Token}
use Rattle.text_tokens.specs.declared.tokens.Token.TheVariants as T
use Rattle.text_tokens.proofs.Steps.{leading_most}
use Rattle.text_tokens.proofs.Values.{decimal_most, leading_front, scaled, number_small}

-- ---- a number's token has the value of its bytes

unfoldable pub Valued : List ℕ → Token → Type 0
Valued s (T.Word k p e) = Unit {0}
Valued s (T.Number z p e) = number_of (part s p e) ≡ Some z
Valued s (T.Open p n) = Unit {0}
Valued s (T.Close p n) = Unit {0}
Valued s (T.Mark b p n) = Unit {0}
Valued s (T.Refusal k p) = Unit {0}
Valued s (T.End p) = Unit {0}

module _ (s : List ℕ) (p e : ℕ) where
  sized_valued : (k : Word) (most long : ℕ) → Valued s (sized_of k most long p e)
  unfolding sized_of Valued
  sized_valued k most long = go (ltb most long)
    where
      go : (t : Bool) → Valued s (cond t (T.Refusal 5 p) (T.Word k p e))
      go true = tt
      go false = tt

  as_valued : (n : Option ℤ) → number_of (part s p e) ≡ n → Valued s (as_token n p e)
  unfolding Valued
  as_valued (Some z) q = q
  as_valued None q = tt

  class_valued : (k : Class) → Valued s (by_class k (part s p e) p e)
  unfolding Valued number_token
  class_valued C.Number = as_valued (number_of (part s p e)) refl
  class_valued C.Name = sized_valued W.Name 32 (length (part s p e))
  class_valued C.Variable = sized_valued W.Variable 33 (length (part s p e))
  class_valued C.Keyword = sized_valued W.Keyword 33 (length (part s p e))
  class_valued C.Operator = tt
  class_valued C.Other = tt

  run_valued : Valued s (domain_run s p e)
  unfolding domain_word Valued
  run_valued = go (is_listed (part s p e))
    where
      go : (t : Bool) → Valued s (cond t (T.Refusal 11 p) (by_class (class_of (part s p e)) (part s p e) p e))
      go true = tt
      go false = class_valued (class_of (part s p e))

bracket_valued : (s : List ℕ) (b p : ℕ) → Valued s (bracket_of b p)
unfolding bracket_of Valued
bracket_valued s b p = go (eqb b 40) (eqb b 41)
  where
    go : (t u : Bool) → Valued s (cond t (T.Open p (p + 1)) (cond u (T.Close p (p + 1)) (T.Refusal 3 p)))
    go true u = tt
    go false true = tt
    go false false = tt

start_valued : (s : List ℕ) (p : ℕ) (k : Kind) → Valued s (on_start k (domain_run s p (end_of s 59 p)) (bracket_of (get_or s p 0) p) (T.Refusal 2 p))
unfolding Valued
start_valued s p K.Digit = run_valued s p (end_of s 59 p)
start_valued s p K.Letter = run_valued s p (end_of s 59 p)
start_valued s p K.Bracket = bracket_valued s (get_or s p 0) p
start_valued s p K.White = run_valued s p (end_of s 59 p)
start_valued s p K.Mark = run_valued s p (end_of s 59 p)
start_valued s p K.Refused = tt

from_valued : (s : List ℕ) (p : ℕ) → Valued s (token_from s p)
unfolding Valued
from_valued s p = go (is_past (length s) p) (leb (length s) p)
  where
    go : (t u : Bool)
        → Valued s (cond t (T.Refusal 1 32768) (cond u (T.End p)
        (on_start (kind_of (get_or s p 0)) (domain_run s p (end_of s 59 p)) (bracket_of (get_or s p 0) p) (T.Refusal 2 p))))
    go true u = tt
    go false true = tt
    go false false = start_valued s p (kind_of (get_or s p 0))

pub number_value : (s : List ℕ) (at : ℕ) (z : ℤ) (p e : ℕ) → token_at s at ≡ T.Number z p e → number_of (part s p e) ≡ Some z
unfolding token_at Valued
number_value s at z p e q = rw q at (from_valued s (gap_end s at))

-- ---- how large a number of n bytes is: wholes, or after a point thousandths

pub data Extent (n m : ℕ) : Type 0 where
  wholes : (v : ℕ) → m ≡ v * 1000 → v + 1 ≤ 10 ^ n → 1 ≤ n → Extent n m
  parts : 3 ≤ n → m + 1 ≤ 10 * 10 ^ n → Extent n m

never : {A : Type 0} (m : ℕ) → None ≡ Some m → A
never m h = absurd (let z : ◌≡◌ {A = ℕ} 0 1 = cc in let y : ⊥ = omega arith in y)

fraction_extent : (n k whole : ℕ) (ds : List ℕ) (m : ℕ) → 1 ≤ k → n ≡ k + suc (length ds) → whole + 1 ≤ 10 ^ k
    → fraction_of whole ds ≡ Some m → Extent n m
unfolding fraction_of
fraction_extent n k whole ds m one long w h = go (between 1 (length ds) 3 && leb (length ds) (leading ds)) refl h
  where
    go : (t : Bool) → (between 1 (length ds) 3 && leb (length ds) (leading ds)) ≡ t
        → cond t (Some (whole * 1000 + decimal 0 ds * scale_of (length ds))) None ≡ Some m → Extent n m
    go false e q = never m q
    go true e q =
        let t = and_three (leb 1 (length ds)) (leb (length ds) 3) (leb (length ds) (leading ds)) e in
        let lo = leb-true 1 (length ds) t.0 in
        let hi = leb-true (length ds) 3 t.1 in
        let all : leading ds ≡ length ds = omega (arith, leb-true (length ds) (leading ds) t.2, leading_most ds) in
        let v : decimal 0 ds + 1 ≤ 10 ^ length ds = omega (arith, decimal_most ds 0 all) in
        let x : whole * 1000 + decimal 0 ds * scale_of (length ds) ≡ m = cc in
        let small : m + 1 ≤ 1000 * 10 ^ k = omega (arith, scaled (length ds) (decimal 0 ds) lo hi v) in
        let up : 10 ^ suc (suc k) ≤ 10 ^ n = ten_to (suc (suc k)) n (omega arith) in
        let a = pow-succ' 10 (suc k) in
        let b = pow-succ' 10 k in
        parts (omega arith) (omega arith)

rest_extent : (n k whole : ℕ) (l : List ℕ) (m : ℕ) → 1 ≤ k → n ≡ k + length l → whole + 1 ≤ 10 ^ k → rest_of whole l ≡ Some m → Extent n m
rest_extent n k whole [] m one long w h =
    let x : whole * 1000 ≡ m = cc in
    let y : n ≡ k = omega arith in
    wholes whole (sym x) (rw y w) (omega arith)
rest_extent n k whole (b ∷ ds) m one long w h = go (eqb b 46) h
  where
    go : (t : Bool) → cond t (fraction_of whole ds) None ≡ Some m → Extent n m
    go true q = fraction_extent n k whole ds m one long w q
    go false q = never m q

from_extent : (l : List ℕ) (m : ℕ) → number_from l ≡ Some m → Extent (length l) m
unfolding number_from
from_extent l m h = go (between 1 (leading l) 9) refl h
  where
    go : (t : Bool) → between 1 (leading l) 9 ≡ t → cond t (rest_of (decimal 0 (take (leading l) l)) (drop (leading l) l)) None ≡ Some m
        → Extent (length l) m
    go false e q = never m q
    go true e q =
        let lo = leb-true 1 (leading l) (first (leb 1 (leading l)) (leb (leading l) 9) e) in
        let n : length (take (leading l) l) ≡ leading l = simp length-take (omega (arith, leading_most l)) in
        let w = rw n at (decimal_most (take (leading l) l) 0 (leading_front l)) in
        let long : length l ≡ leading l + length (drop (leading l) l) = simp length-drop (omega (arith, leading_most l)) in
        rest_extent (length l) (leading l) (decimal 0 (take (leading l) l)) (drop (leading l) l) m lo long (omega (arith, w)) q
      where
        first : (a b : Bool) → (a && b) ≡ true → a ≡ true
        first true b k = refl
        first false b k = k

-- the value of a word that is a number: its sign, its size, and that it is small
pub record Reads (w : List ℕ) (z : ℤ) : Type 0 where
  pub minus : Bool
  pub size : ℕ
  pub bytes : ℕ
  pub is : z ≡ signed minus size
  pub within : bytes ≤ length w
  pub extent : Extent bytes size
  pub small : size < 1000000000000

signed_reads : (w l : List ℕ) (minus : Bool) (z : ℤ) (n : Option ℕ) → length l ≤ length w → number_from l ≡ n → with_sign minus n ≡ Some z → Reads w z
signed_reads w l minus z (Some m) h e q =
    let x : signed minus m ≡ z = cc in
    let s : m < 1000000000000 = rw e at (number_small l) in
    record { minus = minus; size = m; bytes = length l; is = sym x; within = h; extent = from_extent l m e; small = s }
signed_reads w l minus z None h e q = absurd (let x : ◌≡◌ {A = ℕ} 0 1 = cc in let y : ⊥ = omega arith in y)

pub number_reads : (w : List ℕ) (z : ℤ) → number_of w ≡ Some z → Reads w z
unfolding number_of
number_reads w z h = go (begun_by 45 w) h
  where
    go : (t : Bool) → cond t (with_sign true (number_from (drop 1 w))) (with_sign false (number_from w)) ≡ Some z → Reads w z
    go true q = signed_reads w (drop 1 w) true z (number_from (drop 1 w)) (simp length-drop (omega arith)) refl q
    go false q = signed_reads w w false z (number_from w) (omega arith) refl q
