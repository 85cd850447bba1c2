-- How far the bytes of a name go, a step at a place and as a whole; and which bytes are digits. Assumes nothing.
use Rattle.std.specs.Char.{is_ascii_digit, to_ascii_lowercase}
use mathlib.Core.Path.{◌≡◌, refl, sym, ap, ◌∙◌}
use mathlib.Core.List.{List, [], ◌∷◌}
use mathlib.Core.Bool.{Bool, true, false, cond, ◌&&◌}
use Prim.Native.Nat.{ℕ, suc, ◌+◌, ◌≤◌, ◌<◌}
use native.Mathlib.Nat.{add-zero}
use native.Mathlib.Omega.{arith}
use native.Mathlib.Decide.{dec_le}
use lib.Dec.{leb, leb-suc-suc}
use lib.ListN.{length, get_or, drop, length-drop, drop_of_length-le}
use borrow.Author.Tests.{le-leb, lt-leb, leb-true, lt-ltb, le-ltb}
use Rattle.base_laws.proofs.Splits.{and_left, and_right}
use Rattle.base_laws.proofs.Lists.{at_cons}
use Rattle.text_words.specs.Bytes.{kind_of, is_digit, bytes, between, lower_of}
use Rattle.text_words.specs.Spelling.{in_name, name_byte, name_bytes}
use Rattle.text_words.specs.NameEnds.{named, name_end}
use Rattle.text_words.specs.declared.bytes.Kind.{Kind}
use Rattle.text_words.specs.declared.bytes.Kind.TheVariants as K
use Rattle.text_words.proofs.Ranges.{holds_at, kind_at}

-- ---- digits are 48 to 57

abbrev no_digit_lem : ℕ → Bool
no_digit_lem b = cond (is_digit (kind_of b)) false true

no_digit : (t : Bool) → cond t false true ≡ true → t ≡ false
no_digit true h = sym h
no_digit false h = refl

pub digit_is : (b : ℕ) → 48 ≤ b → b ≤ 57 → K.Digit ≡ kind_of b
unfolding kind_of bytes
digit_is b l u = kind_at 48 10 K.Digit b refl l (omega arith)

pub digit_below : (b : ℕ) → b < 48 → is_digit (kind_of b) ≡ false
unfolding kind_of bytes
digit_below b u = no_digit (is_digit (kind_of b)) (holds_at 48 no_digit_lem 0 b refl (omega arith) u)

pub digit_above : (b : ℕ) → 57 < b → b < 256 → is_digit (kind_of b) ≡ false
unfolding kind_of bytes
digit_above b l u = no_digit (is_digit (kind_of b)) (holds_at 198 no_digit_lem 58 b refl (omega arith) (omega arith))

pub digit_from : (b : ℕ) → 48 ≤ b → b < 256 → leb b 57 ≡ is_digit (kind_of b)
digit_from b l u = elim (dec_le b 57) [
  | yes k ↦ le-leb b 57 k ∙ ap is_digit (digit_is b l k)
  | no k ↦ lt-leb b 57 (omega arith) ∙ sym (digit_above b (omega arith) u)
]

-- ---- small letters and digits may stand in a name

pub small_name : (b : ℕ) → between 97 b 122 ≡ true → name_byte b ≡ true
unfolding kind_of bytes name_byte
small_name b h =
    let l = leb-true 97 b (and_left (leb 97 b) (leb b 122) h) in
    let u = leb-true b 122 (and_right (leb 97 b) (leb b 122) h) in
    sym (ap (λ (k : Kind). in_name k b) (kind_at 97 26 K.Letter b refl l (omega arith)))

in_digit : (k : Kind) (b : ℕ) → is_digit k ≡ true → in_name k b ≡ true
in_digit K.Digit b h = refl
in_digit K.Letter b h = refl
in_digit K.Bracket b h = h
in_digit K.White b h = h
in_digit K.Mark b h = absurd (let z : ◌≡◌ {A = ℕ} 0 1 = cc in let y : ⊥ = omega arith in y)
in_digit K.Refused b h = h

pub digit_name : (b : ℕ) → is_digit (kind_of b) ≡ true → name_byte b ≡ true
unfolding name_byte
digit_name b h = in_digit (kind_of b) b h

-- ---- a step at a place

pub named_over : (w : List ℕ) (p : ℕ) → length w ≤ p → name_end w p ≡ p
unfolding name_end named
named_over w p h = rw (drop_of_length-le w h) (add-zero p)

pub named_more : (w : List ℕ) (p : ℕ) → p < length w → name_byte (get_or w p 0) ≡ true → name_end w p ≡ name_end w (p + 1)
unfolding name_end named
named_more w p h e = rw (at_cons w p h, e) (omega arith)

pub named_ends : (w : List ℕ) (p : ℕ) → p < length w → name_byte (get_or w p 0) ≡ false → name_end w p ≡ p
unfolding name_end named
named_ends w p h e = rw (at_cons w p h, e) (add-zero p)

-- ---- all bytes may stand in a name if as many as there are do

pub named_whole : (l : List ℕ) → name_bytes l ≡ leb (length l) (named l)
unfolding name_bytes named
named_whole [] = refl
named_whole (b ∷ bs) = go (name_byte b) (named_whole bs)
  where
    go : (t : Bool) → name_bytes bs ≡ leb (length bs) (named bs) → (t && name_bytes bs) ≡ leb (suc (length bs)) (cond t (suc (named bs)) 0)
    go true h = h ∙ sym (leb-suc-suc (length bs) (named bs))
    go false h = sym (lt-leb (suc (length bs)) 0 (omega arith))

-- the same of all bytes from a place on
pub named_from : (w : List ℕ) (p : ℕ) → p ≤ length w → name_bytes (drop p w) ≡ leb (length w) (name_end w p)
unfolding name_end
named_from w p h = elim (dec_le (length w) (p + named (drop p w))) [
  | yes k ↦ named_whole (drop p w) ∙ le-leb (length (drop p w)) (named (drop p w)) (simp length-drop (omega arith))
      ∙ sym (le-leb (length w) (p + named (drop p w)) k)
  | no k ↦ named_whole (drop p w) ∙ lt-leb (length (drop p w)) (named (drop p w)) (simp length-drop (omega arith))
      ∙ sym (lt-leb (length w) (p + named (drop p w)) (omega arith))
]

pub ascii_digit : (b : ℕ) → b < 256 → is_ascii_digit b ≡ is_digit (kind_of b)
ascii_digit b u = elim (dec_le 48 b) [
  | yes l ↦ let e : leb 48 b ≡ true = le-leb 48 b l in rw e (digit_from b l u)
  | no l ↦ let e : leb 48 b ≡ false = lt-leb 48 b (omega arith) in rw e (sym (digit_below b (omega arith)))
]

pub ascii_lower : (b : ℕ) → to_ascii_lowercase b ≡ lower_of b
unfolding lower_of
ascii_lower b = elim (dec_le 65 b) [
  | yes l ↦ elim (dec_le b 90) [
    | yes u ↦ simp (le-ltb b 65 l, lt-ltb b 91 (omega arith), le-ltb 90 b u)
    | no u ↦ simp (le-ltb b 65 l, le-ltb b 91 (omega arith), lt-ltb 90 b (omega arith))
  ]
  | no l ↦ simp (lt-ltb b 65 (omega arith))
]
