-- Where a token stands and ends, and that a token which is wholly seen is the same in every text that is the same so far. Assumes nothing.
use Rattle.std.specs.Prelude.{ℤ, None, Option, Some}
use mathlib.Core.Path.{◌≡◌, refl, sym, ◌∙◌}
use mathlib.Core.List.{List, ◌∷◌}
use mathlib.Core.Bool.{Bool, true, false, cond, ◌&&◌, ◌||◌, or-true}
use Prim.Native.Nat.{ℕ, suc, ◌+◌, ◌-◌, ◌≤◌, ◌<◌, min}
use native.Mathlib.Nat.{le_refl}
use native.Mathlib.Omega.{arith}
use native.Mathlib.Decide.{dec_le}
use lib.Dec.{eqb, leb, ltb}
use lib.ListN.{length, get_or, take, length-take}
use borrow.Author.Tests.{leb-true, leb-false, eqb-true, ltb-false, le-leb, lt-leb}
use Rattle.base_laws.proofs.Lists.{at_cons}
use Rattle.text_words.specs.Bytes.{bytes, kind_of, is_wordly, lower_of, on_start}
use Rattle.text_words.specs.Spelling.{same_word}
use Rattle.text_words.specs.Fixed.{is_listed}
use Rattle.text_words.specs.declared.bytes.Kind.{Kind}
use Rattle.text_words.specs.declared.bytes.Kind.TheVariants as K
use Rattle.text_tokens.proofs.Steps.{gap_within, run_within}
use Rattle.text_tokens.specs.Runs.{part, gap_end}
use Rattle.text_tokens.specs.Numbers.{number_of}
use Rattle.text_tokens.specs.Classes.{class_of}
use Rattle.text_tokens.specs.Tokens.{sized_of, as_token, number_token, by_class, domain_word, is_past, bracket_of, domain_run, end_of, token_from, token_at, spot_behind}
use Rattle.text_tokens.specs.Tokens.{spot_at}
use Rattle.text_tokens.specs.declared.classes.Class.{Class}
use Rattle.text_tokens.specs.declared.classes.Class.TheVariants as C
use Rattle.text_tokens.specs.declared.tokens.Word.{Word}
use Rattle.text_tokens.specs.declared.tokens.Word.TheVariants as W
use Rattle.text_tokens.specs.declared.tokens.Token.{Token}
use Rattle.text_tokens.specs.declared.tokens.Token.TheVariants as T
use Rattle.domain_meaning.specs.Due.{after_of, place_of}
use Rattle.domain_refusal_laws.specs.Lowest.{seen, next_of}
use Rattle.domain_refusal_laws.proofs.Sight.{gap_near, run_near, part_near, byte_near, run_behind, seen_low}

abbrev spot : ℕ → ℕ → Option (ℕ × ℕ)
spot p e = Some (p, e)

-- a token's own refusal: 1 is for what begins past the most bytes of a text too long
pub record Own (size k p : ℕ) : Type 0 where
  pub least : 1 ≤ k
  pub most : k ≤ 11
  pub long : k ≡ 1 → (p ≡ 32768) × (32768 < size)

own : {size k p : ℕ} → 2 ≤ k → k ≤ 11 → Own size k p
own h i = record { least = omega arith; most = i; long = λ e. absurd (let o : ⊥ = omega arith in o) }

-- a token is seen to its end, a run to the byte after it
unfoldable pub Fits : List ℕ → Token → Type 0
Fits s (T.Word k p e) = (seen s p ≡ e + 1) × (e ≤ length s) × (p < e)
Fits s (T.Number z p e) = seen s p ≡ e + 1
Fits s (T.Open p n) = (n ≡ p + 1) × (get_or s p 0 ≡ 40)
Fits s (T.Close p n) = (n ≡ p + 1) × (seen s p ≡ n)
Fits s (T.Mark b p n) = ⊥
Fits s (T.Refusal k p) = Own (length s) k p
Fits s (T.End p) = length s ≤ p

pub record Shape (s : List ℕ) (p : ℕ) (t : Token) : Type 0 where
  pub place : place_of t ≡ p
  pub fits : Fits s t

module _ (s : List ℕ) (p e : ℕ) (h : seen s p ≡ e + 1) (l : e ≤ length s) (b : p < e) where
  sized_shape : (k : Word) (most long : ℕ) → Shape s p (sized_of k most long p e)
  unfolding sized_of Fits
  sized_shape k most long = go (ltb most long)
    where
      go : (t : Bool) → Shape s p (cond t (T.Refusal 5 p) (T.Word k p e))
      go true = record { place = refl; fits = own (omega arith) (omega arith) }
      go false = record { place = refl; fits = (h, l, b) }

  number_shape : (n : Option ℤ) → Shape s p (as_token n p e)
  unfolding Fits
  number_shape (Some z) = record { place = refl; fits = h }
  number_shape None = record { place = refl; fits = own (omega arith) (omega arith) }

  class_shape : (k : Class) (w : List ℕ) → Shape s p (by_class k w p e)
  unfolding Fits number_token
  class_shape C.Number w = number_shape (number_of w)
  class_shape C.Name w = sized_shape W.Name 32 (length w)
  class_shape C.Variable w = sized_shape W.Variable 33 (length w)
  class_shape C.Keyword w = sized_shape W.Keyword 33 (length w)
  class_shape C.Operator w = record { place = refl; fits = (h, l, b) }
  class_shape C.Other w = record { place = refl; fits = own (omega arith) (omega arith) }

  word_shape : (w : List ℕ) → Shape s p (domain_word w p e)
  unfolding domain_word Fits
  word_shape w = go (is_listed w)
    where
      go : (t : Bool) → Shape s p (cond t (T.Refusal 11 p) (by_class (class_of w) w p e))
      go true = record { place = refl; fits = own (omega arith) (omega arith) }
      go false = class_shape (class_of w) w

bracket_shape : (s : List ℕ) (p : ℕ) → seen s p ≡ p + 1 → Shape s p (bracket_of (get_or s p 0) p)
unfolding bracket_of Fits
bracket_shape s p h = go (eqb (get_or s p 0) 40) refl (eqb (get_or s p 0) 41)
  where
    go : (t : Bool) → eqb (get_or s p 0) 40 ≡ t → (u : Bool) → Shape s p (cond t (T.Open p (p + 1)) (cond u (T.Close p (p + 1)) (T.Refusal 3 p)))
    go true e u = record { place = refl; fits = (refl, eqb-true (get_or s p 0) 40 e) }
    go false e true = record { place = refl; fits = (refl, h) }
    go false e false = record { place = refl; fits = own (omega arith) (omega arith) }

start_shape : (s : List ℕ) (p : ℕ) → p < length s → (k : Kind) → kind_of (get_or s p 0) ≡ k
    → Shape s p (on_start k (domain_run s p (end_of s 59 p)) (bracket_of (get_or s p 0) p) (T.Refusal 2 p))
unfolding Fits seen
start_shape s p i K.Digit h = word_shape s p (end_of s 59 p) (rw (h, seen)) (run_within s 59 (p + 1) (omega arith)).1
    (omega (arith, run_behind s (p + 1))) (part s p (end_of s 59 p))
start_shape s p i K.Letter h = word_shape s p (end_of s 59 p) (rw (h, seen)) (run_within s 59 (p + 1) (omega arith)).1
    (omega (arith, run_behind s (p + 1))) (part s p (end_of s 59 p))
start_shape s p i K.Bracket h = bracket_shape s p (rw (h, seen))
start_shape s p i K.White h = word_shape s p (end_of s 59 p) (rw (h, seen)) (run_within s 59 (p + 1) (omega arith)).1
    (omega (arith, run_behind s (p + 1))) (part s p (end_of s 59 p))
start_shape s p i K.Mark h = word_shape s p (end_of s 59 p) (rw (h, seen)) (run_within s 59 (p + 1) (omega arith)).1
    (omega (arith, run_behind s (p + 1))) (part s p (end_of s 59 p))
start_shape s p i K.Refused h = record { place = refl; fits = own (omega arith) (omega arith) }

past_low : (long g : ℕ) → is_past long g ≡ true → (32768 < long) × (32768 ≤ g)
unfolding is_past
past_low long g h = go (leb long 32768) refl (leb 32768 g) refl h
  where
    go : (t : Bool) → leb long 32768 ≡ t → (u : Bool) → leb 32768 g ≡ u → cond t false u ≡ true → (32768 < long) × (32768 ≤ g)
    go true e u d x = let z : ◌≡◌ {A = ℕ} 0 1 = cc in omega arith
    go false e true d x = (leb-false long 32768 e, leb-true 32768 g d)
    go false e false d x = let z : ◌≡◌ {A = ℕ} 0 1 = cc in omega arith

past_high : (long g : ℕ) → 32768 < long → is_past long g ≡ false → g < 32768
unfolding is_past
past_high long g l h = go (leb long 32768) refl (leb 32768 g) refl h
  where
    go : (t : Bool) → leb long 32768 ≡ t → (u : Bool) → leb 32768 g ≡ u → cond t false u ≡ false → g < 32768
    go true e u d x = omega (arith, leb-true long 32768 e)
    go false e true d x = let z : ◌≡◌ {A = ℕ} 0 1 = cc in omega arith
    go false e false d x = leb-false 32768 g d

-- a token stands at the end of the gap, but 1 at 32,768
abbrev capped : ℕ → ℕ → ℕ
capped long g = cond (is_past long g) 32768 g

from_shape : (s : List ℕ) (g : ℕ) → Shape s (capped (length s) g) (token_from s g)
unfolding Fits
from_shape s g = go (is_past (length s) g) refl (leb (length s) g) refl
  where
    go : (t : Bool) → is_past (length s) g ≡ t → (u : Bool) → leb (length s) g ≡ u → Shape s (cond t 32768 g) (cond t (T.Refusal 1 32768)
        (cond u (T.End g) (on_start (kind_of (get_or s g 0)) (domain_run s g (end_of s 59 g)) (bracket_of (get_or s g 0) g) (T.Refusal 2 g))))
    go true d u e = record { place = refl; fits = record { least = omega arith; most = omega arith; long = λ _. (refl, (past_low (length s) g d).0) } }
    go false d true e = record { place = refl; fits = leb-true (length s) g e }
    go false d false e = start_shape s g (leb-false (length s) g e) (kind_of (get_or s g 0)) refl

token_shape : (s : List ℕ) (at : ℕ) → Shape s (capped (length s) (gap_end s at)) (token_at s at)
unfolding token_at
token_shape s at = from_shape s (gap_end s at)

-- within the text and at most at 32,768
pub token_stands : (s : List ℕ) (at : ℕ) → at ≤ length s → (next_of s at ≤ length s) × (next_of s at ≤ 32768)
token_stands s at h = rw (token_shape s at).place (go (is_past (length s) (gap_end s at)) refl (dec_le (length s) 32768))
  where
    go : (t : Bool) → is_past (length s) (gap_end s at) ≡ t → Dec (length s ≤ 32768) → (cond t 32768 (gap_end s at) ≤ length s)
        × (cond t 32768 (gap_end s at) ≤ 32768)
    go true e d = omega (arith, past_low (length s) (gap_end s at) e)
    go false e (yes i) = omega (arith, gap_within s at h)
    go false e (no i) = omega (arith, gap_within s at h, past_high (length s) (gap_end s at) (omega arith) e)

pub token_fits : (s : List ℕ) (at : ℕ) → Fits s (token_at s at)
token_fits s at = (token_shape s at).fits

-- a token ends after its place, and no further than it is seen
pub token_ends : (s : List ℕ) (t : Token) → Fits s t → (place_of t ≤ after_of t) × (after_of t ≤ seen s (place_of t))
unfolding Fits
token_ends s (T.Word k p e) h = omega (arith, seen_low s p)
token_ends s (T.Number z p e) h = omega (arith, seen_low s p)
token_ends s (T.Open p n) h = omega (arith, seen_low s p)
token_ends s (T.Close p n) h = omega (arith, seen_low s p)
token_ends s (T.Mark b p n) h = absurd h
token_ends s (T.Refusal k p) h = omega (arith, seen_low s p)
token_ends s (T.End p) h = omega (arith, seen_low s p)

-- ---- the next token stands further on

pub past_is : (long g : ℕ) → 32768 < long → 32768 ≤ g → is_past long g ≡ true
unfolding is_past
past_is long g h k = rw (lt-leb long 32768 h, le-leb 32768 g k)

capped_on : (long g h n : ℕ) → capped long g ≤ n → n ≤ h → capped long g ≤ capped long h
capped_on long g h n lo hi = go (is_past long g) refl (is_past long h) refl lo
  where
    go : (t : Bool) → is_past long g ≡ t → (u : Bool) → is_past long h ≡ u → cond t 32768 g ≤ n → cond t 32768 g ≤ cond u 32768 h
    go true e true d l = le_refl 32768
    go true e false d l = omega arith
    go false e true d l = omega (arith, past_high long g (past_low long h d).0 e)
    go false e false d l = omega arith

pub not_past : (long g : ℕ) → g < 32768 → is_past long g ≡ false
unfolding is_past
not_past long g h = rw (lt-leb 32768 g h) (go (leb long 32768))
  where
    go : (t : Bool) → cond t false false ≡ false
    go true = refl
    go false = refl

-- below 32,768 a token stands at the end of the gap
pub next_low : (s : List ℕ) (at : ℕ) → gap_end s at < 32768 → next_of s at ≡ gap_end s at
next_low s at h = rw ((token_shape s at).place, not_past (length s) (gap_end s at) h)

gap_behind : (s : List ℕ) (p : ℕ) → p ≤ gap_end s p
unfolding gap_end
gap_behind s p = omega arith

pub next_on : (s : List ℕ) (at n : ℕ) → next_of s at ≤ n → next_of s at ≤ next_of s n
next_on s at n h = rw ((token_shape s at).place, (token_shape s n).place)
    (capped_on (length s) (gap_end s at) (gap_end s n) n (rw (token_shape s at).place at h) (gap_behind s n))

past_token : (s : List ℕ) (at : ℕ) → is_past (length s) (gap_end s at) ≡ true → token_at s at ≡ T.Refusal 1 32768
unfolding token_at
past_token s at e = rw e

-- a token that has bytes stands before the next one
pub next_strict : (s : List ℕ) (at : ℕ) → next_of s at < after_of (token_at s at) → next_of s at < next_of s (after_of (token_at s at))
next_strict s at h = go (is_past (length s) (gap_end s at)) refl
  where
    n : ℕ
    n = after_of (token_at s at)

    later : (g : ℕ) → is_past (length s) g ≡ false → g < n → (u : Bool) → is_past (length s) (gap_end s n) ≡ u → g < cond u 32768 (gap_end s n)
    later g e k true d = past_high (length s) g (past_low (length s) (gap_end s n) d).0 e
    later g e k false d = omega (arith, gap_behind s n)

    go : (t : Bool) → is_past (length s) (gap_end s at) ≡ t → next_of s at < next_of s n
    go true e = absurd (let y : ⊥ = omega (arith, (rw (past_token s at e) at h)) in y)
    go false e = let g : next_of s at ≡ gap_end s at = rw ((token_shape s at).place, e) in
        let r : gap_end s at < next_of s n = rw (token_shape s n).place (later (gap_end s at) e (rw g at h) (is_past (length s) (gap_end s n)) refl) in
        omega arith

-- ---- a word that begins like no bracket and no byte that is not allowed

abbrev pub Wordly : List ℕ → Type 0
Wordly w = (b : ℕ) (bs : List ℕ) → is_wordly (kind_of b) ≡ false → same_word (b ∷ bs) w ≡ false

first_byte : (c : ℕ) (ws : List ℕ) → ((b : ℕ) → lower_of b ≡ lower_of c → is_wordly (kind_of b) ≡ true) → Wordly (c ∷ ws)
unfolding same_word
first_byte c ws f b bs h = go (eqb (lower_of b) (lower_of c)) refl
  where
    go : (t : Bool) → eqb (lower_of b) (lower_of c) ≡ t → (t && same_word bs ws) ≡ false
    go true e = let z : true ≡ false = sym (f b (eqb-true (lower_of b) (lower_of c) e)) ∙ h in let y : ◌≡◌ {A = ℕ} 0 1 =
        cc in absurd (let x : ⊥ = omega arith in x)
    go false e = refl

-- a letter without its case is itself or 32 before
cased : (b c : ℕ) → lower_of b ≡ c → (P : ℕ → Type 0) → P c → (97 ≤ c → P (c - 32)) → P b
unfolding lower_of
cased b c e P x y = go (ltb b 65) refl (ltb 90 b) e
  where
    go : (t : Bool) → ltb b 65 ≡ t → (u : Bool) → cond t b (cond u b (b + 32)) ≡ c → P b
    go true h u d = rw d x
    go false h true d = rw d x
    go false h false d = let k : b ≡ c - 32 = omega arith in rw k (y (omega (arith, ltb-false b 65 h)))

pub either_wordly : Wordly (bytes "either")
unfolding bytes lower_of kind_of
either_wordly = first_byte 101 _ (λ b e. cased b 101 e (λ n. is_wordly (kind_of n) ≡ true) refl (λ h. refl))

pub duration_wordly : Wordly (bytes "?duration")
unfolding bytes lower_of kind_of
duration_wordly = first_byte 63 _ (λ b e. cased b 63 e (λ n. is_wordly (kind_of n) ≡ true) refl (λ h. absurd (let x : ⊥ = omega arith in x)))

front : (s : List ℕ) (p e : ℕ) → p < length s → p < e → part s p e ≡ get_or s p 0 ∷ part s (p + 1) e
front s p e h k = let d : e - p ≡ suc (e - (p + 1)) = omega arith in rw (at_cons s p h, d)

unlike : (w : List ℕ) → Wordly w → (s : List ℕ) (g : ℕ) → g < length s → is_wordly (kind_of (get_or s g 0)) ≡ false → same_word (part s g (end_of s 59 g)) w ≡ false
unlike w f s g h k = rw (front s g (end_of s 59 g) h (omega (arith, run_behind s (g + 1)))) (f (get_or s g 0) (part s (g + 1) (end_of s 59 g)) k)

-- ---- texts that are the same up to q, and a token that is wholly seen
module _ (s u : List ℕ) (q : ℕ) (a : take q s ≡ take q u) where
  long_near : min q (length s) ≡ min q (length u)
  long_near = rw (← length-take q s, ← length-take q u, a)

  past_near : (g : ℕ) → g < q → is_past (length s) g ≡ is_past (length u) g
  unfolding is_past
  past_near g h = go (leb (length s) 32768) refl (leb (length u) 32768) refl (leb 32768 g) refl
    where
      go : (t : Bool) → leb (length s) 32768 ≡ t → (v : Bool) → leb (length u) 32768 ≡ v → (x : Bool) → leb 32768 g ≡ x → cond t false x ≡ cond v false x
      go true d true e x k = refl
      go true d false e true k =
          absurd (let y : ⊥ = omega (arith, long_near, leb-true (length s) 32768 d, leb-false (length u) 32768 e, leb-true 32768 g k) in y)
      go true d false e false k = refl
      go false d true e true k =
          absurd (let y : ⊥ = omega (arith, long_near, leb-false (length s) 32768 d, leb-true (length u) 32768 e, leb-true 32768 g k) in y)
      go false d true e false k = refl
      go false d false e x k = refl

  end_near : (g : ℕ) → g < q → leb (length s) g ≡ leb (length u) g
  end_near g h = go (leb (length s) g) refl (leb (length u) g) refl
    where
      go : (t : Bool) → leb (length s) g ≡ t → (v : Bool) → leb (length u) g ≡ v → t ≡ v
      go true d true e = refl
      go true d false e = absurd (let y : ⊥ = omega (arith, long_near, leb-true (length s) g d, leb-false (length u) g e) in y)
      go false d true e = absurd (let y : ⊥ = omega (arith, long_near, leb-false (length s) g d, leb-true (length u) g e) in y)
      go false d false e = refl

  gap_same : (at : ℕ) → gap_end s at < q → gap_end s at ≡ gap_end u at
  gap_same at h = omega (arith, gap_near s u q a at)

  past_same : (at : ℕ) → is_past (length s) (gap_end s at) ≡ true → 32768 < q → is_past (length u) (gap_end u at) ≡ true
  past_same at e h = let k : (32768 < length s) × (32768 ≤ gap_end s at) = past_low (length s) (gap_end s at) e in
      past_is (length u) (gap_end u at) (omega (arith, long_near)) (omega (arith, gap_near s u q a at))

  end_same : (g : ℕ) → end_of s 59 g + 1 ≤ q → end_of s 59 g ≡ end_of u 59 g
  end_same g h = omega (arith, run_near s u q a (g + 1))

  word_same : (g : ℕ) → end_of s 59 g + 1 ≤ q → part s g (end_of s 59 g) ≡ part u g (end_of u 59 g)
  word_same g h = rw (← end_same g h) (part_near s u q a g (end_of s 59 g) (omega arith))

  run_same : (g : ℕ) → end_of s 59 g + 1 ≤ q → domain_run s g (end_of s 59 g) ≡ domain_run u g (end_of u 59 g)
  run_same g h = rw (word_same g h, end_same g h)

  start_same : (g : ℕ) (b c : Token) (k : Kind) → kind_of (get_or s g 0) ≡ k → seen s g ≤ q
      → on_start k (domain_run s g (end_of s 59 g)) b c ≡ on_start k (domain_run u g (end_of u 59 g)) b c
  unfolding seen
  start_same g b c K.Digit e h = run_same g (rw (e, seen) at h)
  start_same g b c K.Letter e h = run_same g (rw (e, seen) at h)
  start_same g b c K.Bracket e h = refl
  start_same g b c K.White e h = run_same g (rw (e, seen) at h)
  start_same g b c K.Mark e h = run_same g (rw (e, seen) at h)
  start_same g b c K.Refused e h = refl

  from_same : (g : ℕ) → seen s g ≤ q → token_from s g ≡ token_from u g
  from_same g h = let i : g < q = omega (arith, seen_low s g) in
      rw (past_near g i, end_near g i, ← byte_near s u q a g i, start_same g (bracket_of (get_or s g 0) g) (T.Refusal 2 g) (kind_of (get_or s g 0)) refl h)

  -- by whether the place is past the most bytes
  sight : (at : ℕ) (t : Bool) → is_past (length s) (gap_end s at) ≡ t → seen s (next_of s at) ≤ q → seen s (cond t 32768 (gap_end s at)) ≤ q
  sight at t e h = rw ((token_shape s at).place, e) at h

  pub token_same : (at : ℕ) → seen s (next_of s at) ≤ q → token_at s at ≡ token_at u at
  unfolding token_at
  token_same at h = go (is_past (length s) (gap_end s at)) refl
    where
      go : (t : Bool) → is_past (length s) (gap_end s at) ≡ t → token_from s (gap_end s at) ≡ token_from u (gap_end u at)
      go true e = rw (e, past_same at e (omega (arith, sight at true e h, seen_low s 32768)))
      go false e = let k : seen s (gap_end s at) ≤ q = sight at false e h in
          rw (← gap_same at (omega (arith, seen_low s (gap_end s at)))) (from_same (gap_end s at) k)

  spot_start : (w : List ℕ) → Wordly w → (g : ℕ) → g < length s → (k : Kind) → kind_of (get_or s g 0) ≡ k → seen s g ≤ q
      → cond (same_word (part s g (end_of s 59 g)) w) (spot g (end_of s 59 g)) None ≡ cond (same_word (part u g (end_of u 59 g)) w)
      (spot g (end_of u 59 g)) None
  unfolding seen
  spot_start w f g i k e h = go k e (rw (e, seen) at h)
    where
      goal : Type 0
      goal = cond (same_word (part s g (end_of s 59 g)) w) (spot g (end_of s 59 g)) None ≡ cond (same_word (part u g (end_of u 59 g)) w)
          (spot g (end_of u 59 g)) None

      run : end_of s 59 g + 1 ≤ q → goal
      run r = rw (word_same g r, end_same g r)

      byte : get_or s g 0 ≡ get_or u g 0
      byte = byte_near s u q a g (omega (arith, seen_low s g))

      alone : (k : Kind) → kind_of (get_or s g 0) ≡ k → is_wordly k ≡ false → goal
      alone k d x = let b : is_wordly (kind_of (get_or s g 0)) ≡ false = rw d x in
          rw (unlike w f s g i b, unlike w f u g (omega (arith, long_near, seen_low s g)) (rw byte at b))

      go : (k : Kind) → kind_of (get_or s g 0) ≡ k → on_start k (end_of s 59 g + 1) (g + 1) (g + 1) ≤ q → goal
      go K.Digit d r = run r
      go K.Letter d r = run r
      go K.Bracket d r = alone K.Bracket d refl
      go K.White d r = run r
      go K.Mark d r = run r
      go K.Refused d r = alone K.Refused d refl

  pub spot_same : (w : List ℕ) → Wordly w → (at : ℕ) → seen s (next_of s at) ≤ q → spot_at s at w ≡ spot_at u at w
  unfolding spot_at
  spot_same w f at h = go (is_past (length s) (gap_end s at)) refl
    where
      here : (g : ℕ) → seen s g ≤ q → (t : Bool) → leb (length s) g ≡ t
          → cond (is_past (length u) g || t) None (cond (same_word (part s g (end_of s 59 g)) w) (spot g (end_of s 59 g)) None)
          ≡ cond (is_past (length u) g || t) None (cond (same_word (part u g (end_of u 59 g)) w) (spot g (end_of u 59 g)) None)
      here g k true e = rw or-true
      here g k false e = rw (spot_start w f g (leb-false (length s) g e) (kind_of (get_or s g 0)) refl k)

      go : (t : Bool) → is_past (length s) (gap_end s at) ≡ t → spot_behind s (gap_end s at) w ≡ spot_behind u (gap_end u at) w
      go true e = rw (e, past_same at e (omega (arith, sight at true e h, seen_low s 32768)))
      go false e = let k : seen s (gap_end s at) ≤ q = sight at false e h in
          let i : gap_end s at < q = omega (arith, seen_low s (gap_end s at)) in
          rw (← gap_same at i, past_near (gap_end s at) i, ← end_near (gap_end s at) i) (here (gap_end s at) k (leb (length s) (gap_end s at)) refl)

-- a spot that is found stands where the next token stands
abbrev pub Spotted : ℕ → Option (ℕ × ℕ) → Type 0
Spotted p (Some (g, e)) = (g ≡ p) × (p ≤ e)
Spotted p None = Unit {0}

pub spot_place : (s : List ℕ) (at : ℕ) (w : List ℕ) → Spotted (next_of s at) (spot_at s at w)
unfolding spot_at
spot_place s at w = rw (token_shape s at).place (go (is_past (length s) (gap_end s at)) (leb (length s) (gap_end s at))
    (same_word (part s (gap_end s at) (end_of s 59 (gap_end s at))) w))
  where
    go : (t u v : Bool) → Spotted (cond t 32768 (gap_end s at)) (cond (t || u) None (cond v (spot (gap_end s at) (end_of s 59 (gap_end s at))) None))
    go true u v = tt
    go false true v = tt
    go false false true = (refl, omega (arith, run_behind s (gap_end s at + 1)))
    go false false false = tt
