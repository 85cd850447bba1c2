-- Where a token of domain or problem lies, and how long its name is; where a given word lies. Assumes nothing.
use Rattle.std.specs.Prelude.{ℤ, None, Some, Option}
use mathlib.Core.Path.{◌≡◌, refl}
use mathlib.Core.List.{List}
use mathlib.Core.Bool.{Bool, true, false, cond, ◌||◌}
use Prim.Native.Nat.{ℕ, ◌+◌, ◌-◌, ◌≤◌, ◌<◌}
use native.Mathlib.Omega.{arith}
use lib.ListN.{length, get_or, length-take, length-drop}
use lib.Dec.{eqb, leb, ltb}
use borrow.Author.Tests.{ltb-false, leb-false}
use Rattle.base_laws.proofs.Pairs.{some_pair}
use Rattle.text_words.specs.Bytes.{kind_of, on_start}
use Rattle.text_words.specs.Spelling.{same_word}
use Rattle.text_words.specs.Fixed.{is_listed}
use Rattle.text_words.specs.declared.bytes.Kind.{Kind}
use Rattle.text_words.specs.declared.bytes.Kind.TheVariants as K
use Rattle.text_tokens.specs.Runs.{part, gap_end, run_end}
use Rattle.text_tokens.specs.Numbers.{number_of}
use Rattle.text_tokens.specs.Classes.{class_of}
use Rattle.text_tokens.specs.Tokens.{sized_of, as_token, number_token, by_class, domain_word, is_past, bracket_of, domain_run, end_of, token_from, token_at, spot_at}
use Rattle.text_tokens.specs.declared.classes.Class.{Class}
use Rattle.text_tokens.specs.declared.classes.Class.TheVariants as C
use Rattle.text_tokens.specs.declared.tokens.Word.{Word}
use Rattle.text_tokens.specs.declared.tokens.Word.TheVariants as W
use Rattle.text_tokens.specs.declared.tokens.Token.{Token}
use Rattle.text_tokens.specs.declared.tokens.Token.TheVariants as T
use Rattle.text_tokens.proofs.Steps.{gap_within, run_within}

-- a word's most bytes, its mark counted
abbrev pub Sized : Word → ℕ → Type 0
Sized W.Name n = n ≤ 32
Sized W.Variable n = n ≤ 33
Sized W.Keyword n = n ≤ 33
Sized W.Operator n = Unit {0}

-- a token of s that was looked for from `at` on
unfoldable pub Within : List ℕ → ℕ → Token → Type 0
Within s at (T.Word k p e) = (at ≤ p) × (p < e) × (e ≤ length s) × Sized k (e - p)
Within s at (T.Number z p e) = (at ≤ p) × (p < e) × (e ≤ length s)
Within s at (T.Open p n) = (at ≤ p) × (n ≡ p + 1) × (n ≤ length s)
Within s at (T.Close p n) = (at ≤ p) × (n ≡ p + 1) × (n ≤ length s)
Within s at (T.Mark b p n) = (at ≤ p) × (n ≡ p + 1) × (n ≤ length s)
Within s at (T.Refusal k p) = Unit {0}
Within s at (T.End p) = Unit {0}

module _ (s : List ℕ) (at p e : ℕ) (lo : at ≤ p) (mid : p < e) (hi : e ≤ length s) where
  sized_in : (k : Word) (most long : ℕ) → long ≡ e - p → ((n : ℕ) → n ≤ most → Sized k n) → Within s at (sized_of k most long p e)
  unfolding sized_of Within
  sized_in k most long q f = go (ltb most long) refl
    where
      go : (t : Bool) → ltb most long ≡ t → Within s at (cond t (T.Refusal 5 p) (T.Word k p e))
      go true h = tt
      go false h = (lo, mid, hi, rw q at (f long (ltb-false most long h)))

  signed_in_lem : (n : Option ℤ) → Within s at (as_token n p e)
  unfolding Within
  signed_in_lem (Some z) = (lo, mid, hi)
  signed_in_lem None = tt

  number_in_lem : (w : List ℕ) → Within s at (number_token w p e)
  unfolding number_token
  number_in_lem w = signed_in_lem (number_of w)

  class_in : (k : Class) (w : List ℕ) → length w ≡ e - p → Within s at (by_class k w p e)
  unfolding Within
  class_in C.Number w q = number_in_lem w
  class_in C.Name w q = sized_in W.Name 32 (length w) q (λ n h. h)
  class_in C.Variable w q = sized_in W.Variable 33 (length w) q (λ n h. h)
  class_in C.Keyword w q = sized_in W.Keyword 33 (length w) q (λ n h. h)
  class_in C.Operator w q = (lo, mid, hi, tt)
  class_in C.Other w q = tt

  word_in : (w : List ℕ) → length w ≡ e - p → Within s at (domain_word w p e)
  unfolding domain_word Within
  word_in w q = go (is_listed w)
    where
      go : (t : Bool) → Within s at (cond t (T.Refusal 11 p) (by_class (class_of w) w p e))
      go true = tt
      go false = class_in (class_of w) w q

bracket_in : (s : List ℕ) (at b p : ℕ) → at ≤ p → p < length s → Within s at (bracket_of b p)
unfolding bracket_of Within
bracket_in s at b p lo hi = go (eqb b 40) (eqb b 41)
  where
    go : (t u : Bool) → Within s at (cond t (T.Open p (p + 1)) (cond u (T.Close p (p + 1)) (T.Refusal 3 p)))
    go true u = (lo, refl, omega arith)
    go false true = (lo, refl, omega arith)
    go false false = tt

pub part_length : (s : List ℕ) (p e : ℕ) → e ≤ length s → length (part s p e) ≡ e - p
part_length s p e h = simp (length-take, length-drop) (omega arith)

start_in : (s : List ℕ) (at p : ℕ) (k : Kind) → at ≤ p → p < length s
    → Within s at (on_start k (domain_run s p (end_of s 59 p)) (bracket_of (get_or s p 0) p) (T.Refusal 2 p))
unfolding Within
start_in s at p k lo hi = go k
  where
    bounds : (p + 1 ≤ run_end s 59 (p + 1)) × (run_end s 59 (p + 1) ≤ length s)
    bounds = run_within s 59 (p + 1) (omega arith)

    wordly : Within s at (domain_run s p (end_of s 59 p))
    wordly = word_in s at p (run_end s 59 (p + 1)) lo (omega (arith, bounds)) bounds.1 (part s p (run_end s 59 (p + 1)))
        (part_length s p (run_end s 59 (p + 1)) bounds.1)

    go : (k : Kind) → Within s at (on_start k (domain_run s p (end_of s 59 p)) (bracket_of (get_or s p 0) p) (T.Refusal 2 p))
    go K.Digit = wordly
    go K.Letter = wordly
    go K.Bracket = bracket_in s at (get_or s p 0) p lo hi
    go K.White = wordly
    go K.Mark = wordly
    go K.Refused = tt

from_in : (s : List ℕ) (at p : ℕ) → at ≤ p → Within s at (token_from s p)
unfolding Within
from_in s at p lo = go (is_past (length s) p) (leb (length s) p) refl
  where
    go : (t u : Bool) → leb (length s) p ≡ u
        → Within s at (cond t (T.Refusal 1 32768) (cond u (T.End p)
        (on_start (kind_of (get_or s p 0)) (domain_run s p (end_of s 59 p)) (bracket_of (get_or s p 0) p) (T.Refusal 2 p))))
    go true u h = tt
    go false true h = tt
    go false false h = start_in s at p (kind_of (get_or s p 0)) lo (leb-false (length s) p h)

-- wherever it was looked for: past the end there is none
pub token_in : (s : List ℕ) (at : ℕ) → Within s at (token_at s at)
unfolding token_at gap_end
token_in s at = from_in s at (gap_end s at) (let z : at ≤ gap_end s at = omega arith in z)

pub token_within : (s : List ℕ) (at : ℕ) → at ≤ length s → Within s at (token_at s at)
token_within s at h = token_in s at

pub spot_within : (s : List ℕ) (at : ℕ) (w : List ℕ) (p e : ℕ) → at ≤ length s → ◌≡◌ {A = Option (ℕ × ℕ)} (spot_at s at w) (Some (p, e)) → (at < e) × (e ≤ length s)
unfolding spot_at
spot_within s at w p e h = go (is_past (length s) (gap_end s at)) (leb (length s) (gap_end s at)) refl
    (same_word (part s (gap_end s at) (end_of s 59 (gap_end s at))) w)
  where
    never : ◌≡◌ {A = Option (ℕ × ℕ)} None (Some (p, e)) → (at < e) × (e ≤ length s)
    never q = absurd (let z : ◌≡◌ {A = ℕ} 0 1 = cc in let y : ⊥ = omega arith in y)

    go : (t u : Bool) → leb (length s) (gap_end s at) ≡ u → (v : Bool)
        → ◌≡◌ {A = Option (ℕ × ℕ)} (cond (t || u) None (cond v (Some (gap_end s at, end_of s 59 (gap_end s at))) None)) (Some (p, e)) → (at < e) × (e ≤ length s)
    go true u i v q = never q
    go false true i v q = never q
    go false false i false q = never q
    go false false i true q =
        let l = (gap_within s at h).0 in
        let b = run_within s 59 (gap_end s at + 1) (omega (arith, leb-false (length s) (gap_end s at) i)) in
        let n : run_end s 59 (gap_end s at + 1) ≡ e = (some_pair {A = ℕ} {B = ℕ} (gap_end s at) p (end_of s 59 (gap_end s at)) e q).1 in
        (omega (arith, l, b.0), omega (arith, b.1))
