-- A text that was read to its end is not too long: past the most bytes the end is never given. Assumes nothing.
use Rattle.std.specs.Prelude.{None, Option, Some, ℤ}
use mathlib.Core.Path.{◌≡◌, refl}
use mathlib.Core.List.{List}
use mathlib.Core.Bool.{Bool, true, false, cond}
use Prim.Native.Nat.{ℕ, ◌+◌, ◌≤◌}
use native.Mathlib.Omega.{arith}
use lib.Dec.{eqb, leb, ltb}
use lib.ListN.{length, get_or}
use borrow.Author.Tests.{leb-true, leb-false}
use Rattle.domain_meaning.proofs.Readings.{never}
use Rattle.text_words.specs.Bytes.{kind_of, on_start}
use Rattle.text_words.specs.Fixed.{is_listed}
use Rattle.text_words.specs.declared.bytes.Kind.{Kind}
use Rattle.text_words.specs.declared.bytes.Kind.TheVariants as K
use Rattle.text_tokens.specs.Runs.{gap_end}
use Rattle.text_tokens.specs.Numbers.{number_of}
use Rattle.text_tokens.specs.Classes.{class_of}
use Rattle.text_tokens.specs.Tokens.{sized_of, as_token, number_token, by_class, domain_word, is_past, bracket_of, domain_run, end_of, token_from, token_at}
use Rattle.text_tokens.specs.declared.classes.Class.{Class}
use Rattle.text_tokens.specs.declared.classes.Class.TheVariants as C
use Rattle.text_tokens.specs.declared.tokens.Word.{Word}
use Rattle.text_tokens.specs.declared.tokens.Token.{Token}
use Rattle.text_tokens.specs.declared.tokens.Token.TheVariants as T
use Rattle.domain_meaning.specs.Read.{got, give}
use Rattle.domain_meaning.specs.Due.{after_of, wrong, on_end, on_open, on_close}
use Rattle.domain_meaning.specs.Domain.{ending}

-- the end is given only of a text of n bytes that is not too long
unfoldable Ends : ℕ → Token → Type 0
Ends n (T.Word k p e) = Unit {0}
Ends n (T.Number z p e) = Unit {0}
Ends n (T.Open p e) = Unit {0}
Ends n (T.Close p e) = Unit {0}
Ends n (T.Mark b p e) = Unit {0}
Ends n (T.Refusal k p) = Unit {0}
Ends n (T.End p) = n ≤ 32768

-- ---- a run or a bracket is no end

module _ (n p e : ℕ) where
  sized_ends : (k : Word) (most long : ℕ) → Ends n (sized_of k most long p e)
  unfolding sized_of Ends
  sized_ends k most long = go (ltb most long)
    where
      go : (t : Bool) → Ends n (cond t (T.Refusal 5 p) (T.Word k p e))
      go true = tt
      go false = tt

  number_ends : (x : Option ℤ) → Ends n (as_token x p e)
  unfolding Ends
  number_ends (Some z) = tt
  number_ends None = tt

  class_ends : (k : Class) (w : List ℕ) → Ends n (by_class k w p e)
  unfolding Ends number_token
  class_ends C.Number w = number_ends (number_of w)
  class_ends C.Name w = sized_ends _ 32 (length w)
  class_ends C.Variable w = sized_ends _ 33 (length w)
  class_ends C.Keyword w = sized_ends _ 33 (length w)
  class_ends C.Operator w = tt
  class_ends C.Other w = tt

  word_ends : (w : List ℕ) → Ends n (domain_word w p e)
  unfolding domain_word Ends
  word_ends w = go (is_listed w)
    where
      go : (t : Bool) → Ends n (cond t (T.Refusal 11 p) (by_class (class_of w) w p e))
      go true = tt
      go false = class_ends (class_of w) w

bracket_ends : (n b p : ℕ) → Ends n (bracket_of b p)
unfolding bracket_of Ends
bracket_ends n b p = go (eqb b 40) (eqb b 41)
  where
    go : (t u : Bool) → Ends n (cond t (T.Open p (p + 1)) (cond u (T.Close p (p + 1)) (T.Refusal 3 p)))
    go true u = tt
    go false true = tt
    go false false = tt

start_ends : (s : List ℕ) (p : ℕ) (k : Kind) → Ends (length s) (on_start k (domain_run s p (end_of s 59 p)) (bracket_of (get_or s p 0) p) (T.Refusal 2 p))
unfolding Ends
start_ends s p K.Digit = word_ends (length s) p (end_of s 59 p) _
start_ends s p K.Letter = word_ends (length s) p (end_of s 59 p) _
start_ends s p K.Bracket = bracket_ends (length s) (get_or s p 0) p
start_ends s p K.White = word_ends (length s) p (end_of s 59 p) _
start_ends s p K.Mark = word_ends (length s) p (end_of s 59 p) _
start_ends s p K.Refused = tt

-- ---- where the text is too long, its end is past the most bytes

from_ends : (s : List ℕ) (p : ℕ) → Ends (length s) (token_from s p)
unfolding is_past Ends
from_ends s p = go (leb (length s) 32768) refl (leb 32768 p) refl (leb (length s) p) refl
  where
    go : (a : Bool) → leb (length s) 32768 ≡ a → (b : Bool) → leb 32768 p ≡ b → (t : Bool) → leb (length s) p ≡ t
        → Ends (length s) (cond (cond a false b) (T.Refusal 1 32768)
        (cond t (T.End p) (on_start (kind_of (get_or s p 0)) (domain_run s p (end_of s 59 p)) (bracket_of (get_or s p 0) p) (T.Refusal 2 p))))
    go true ha b hb true ht = leb-true (length s) 32768 ha
    go true ha b hb false ht = start_ends s p (kind_of (get_or s p 0))
    go false ha true hb t ht = tt
    go false ha false hb true ht = omega (arith, leb-false (length s) 32768 ha, leb-false 32768 p hb, leb-true (length s) p ht)
    go false ha false hb false ht = start_ends s p (kind_of (get_or s p 0))

token_ends : (s : List ℕ) (at : ℕ) → Ends (length s) (token_at s at)
unfolding token_at
token_ends s at = from_ends s (gap_end s at)

-- ---- the end of a text that was read

at_end : (n : ℕ) (u : Token) (q a : ℕ) → Ends n u → on_end u (λ p. give p) (wrong 16 u) (after_of u) ≡ got q a → n ≤ 32768
unfolding Ends
at_end n (T.Word k p e) q a w h = never h
at_end n (T.Number z p e) q a w h = never h
at_end n (T.Open p e) q a w h = never h
at_end n (T.Close p e) q a w h = never h
at_end n (T.Mark b p e) q a w h = never h
at_end n (T.Refusal k p) q a w h = never h
at_end n (T.End p) q a w h = w

pub ending_short : (s : List ℕ) (at q a : ℕ) → ending s at ≡ got q a → length s ≤ 32768
unfolding ending
ending_short s at q a h = go (token_at s at) h
  where
    go : (t : Token) → on_close t (λ p b. on_end (token_at s b) (λ i. give i) (wrong 16 (token_at s b)) (after_of (token_at s b)))
        (on_open t (λ p b. wrong 14 (token_at s b) (after_of (token_at s b))) (wrong 15 t)) (after_of t) ≡ got q a → length s ≤ 32768
    go (T.Word k p e) h = never h
    go (T.Number z p e) h = never h
    go (T.Open p e) h = never h
    go (T.Close p e) h = at_end (length s) (token_at s e) q a (token_ends s e) h
    go (T.Mark b p e) h = never h
    go (T.Refusal k p) h = never h
    go (T.End p) h = never h
