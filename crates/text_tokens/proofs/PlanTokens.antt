-- The tokens of a plan line: where they lie, which refusals they can be, and that a number has no sign and few digits. Assumes nothing.
use Rattle.std.specs.Prelude.{None, Option, Some}
use mathlib.Core.Path.{◌≡◌, refl}
use mathlib.Core.List.{List, [], ◌∷◌}
use mathlib.Core.Bool.{Bool, true, false, cond}
use mathlib.Core.Logic.{◌⊎◌, inl, inr}
use Prim.Native.Nat.{ℕ, ◌+◌, ◌≤◌, ◌<◌, min}
use native.Mathlib.Omega.{arith}
use native.Mathlib.Decide.{dec_le}
use lib.Dec.{eqb, leb, ltb}
use lib.IntN.{ℤ, pos, nat_abs}
use lib.ListN.{length, get_or, drop}
use types.Run.{OneOf, hit}
use borrow.Author.Tests.{ltb-true, ltb-false, leb-false}
use Rattle.text_words.specs.Bytes.{kind_of, on_start}
use Rattle.text_words.specs.declared.bytes.Kind.{Kind}
use Rattle.text_words.specs.declared.bytes.Kind.TheVariants as K
use Rattle.text_tokens.specs.Runs.{part, gap, gap_end}
use Rattle.text_tokens.specs.Numbers.{Small, number_from, with_sign, number_of}
use Rattle.text_tokens.specs.Classes.{begun_by, class_of}
use Rattle.text_tokens.specs.Tokens.{sized_of, as_token, number_token, judged_of, strange_of, plan_number, plan_class, plan_word, square_of, plan_run, end_of}
use Rattle.text_tokens.specs.Tokens.{plan_from, plan_token_at}
use Rattle.text_tokens.specs.declared.classes.Class.{Class}
use Rattle.text_tokens.specs.declared.classes.Class.TheVariants as C
use Rattle.text_tokens.specs.declared.tokens.Word.TheVariants as W
use Rattle.text_tokens.specs.declared.tokens.Token.{Token}
use Rattle.text_tokens.specs.declared.tokens.Token.TheVariants as T
use Rattle.text_tokens.proofs.Steps.{gap_start, gap_over, gap_within, run_within}
use Rattle.text_tokens.proofs.Values.{number_small}

-- a number without a sign, of at most nine digits and three decimals
abbrev pub Unsigned : ℤ → Type 0
Unsigned z = (z ≡ pos (nat_abs z)) × (nat_abs z < 1000000000000)

-- the refusals that a token is by itself; 14 at 256 for what ends past it
abbrev pub token_rows : List ℕ
token_rows = 2 ∷ 3 ∷ 5 ∷ 6 ∷ []

abbrev pub TokenRow : ℕ → ℕ → Type 0
TokenRow k p = OneOf token_rows k ⊎ ((k ≡ 14) × (p ≡ 256))

-- a token that lies at or below a place
abbrev pub InPlan : ℕ → Token → Type 0
InPlan m (T.Word k p e) = (p ≤ m) × (e ≤ m)
InPlan m (T.Number z p e) = (p ≤ m) × (e ≤ m) × Unsigned z
InPlan m (T.Open p n) = (p ≤ m) × (n ≤ m)
InPlan m (T.Close p n) = (p ≤ m) × (n ≤ m)
InPlan m (T.Mark b p n) = (p ≤ m) × (n ≤ m)
InPlan m (T.Refusal k p) = (p ≤ m) × TokenRow k p
InPlan m (T.End p) = p ≤ m

-- ---- a run from p to e

module _ (m p e : ℕ) (lo : p ≤ m) (hi : e ≤ m) where
  sized_in : (long : ℕ) → InPlan m (sized_of W.Name 32 long p e)
  unfolding sized_of
  sized_in long = go (ltb 32 long)
    where
      go : (b : Bool) → InPlan m (cond b (T.Refusal 5 p) (T.Word W.Name p e))
      go true = (lo, inl (hit token_rows 5 tt))
      go false = (lo, hi)

  strange_in : (long : ℕ) → InPlan m (strange_of long p)
  unfolding strange_of
  strange_in long = go (ltb 33 long)
    where
      go : (b : Bool) → InPlan m (cond b (T.Refusal 5 p) (T.Refusal 3 p))
      go true = (lo, inl (hit token_rows 5 tt))
      go false = (lo, inl (hit token_rows 3 tt))

  unsigned_in : (n : Option ℕ) → Small n → InPlan m (as_token (with_sign false n) p e)
  unsigned_in (Some z) h = (lo, hi, (refl, h))
  unsigned_in None h = (lo, inl (hit token_rows 6 tt))

  number_in_lem : (w : List ℕ) → InPlan m (plan_number w p e)
  unfolding plan_number number_token number_of
  number_in_lem w = go (begun_by 45 w)
    where
      go : (b : Bool) → InPlan m (cond b (T.Refusal 6 p) (as_token (cond b (with_sign true (number_from (drop 1 w))) (with_sign false (number_from w))) p e))
      go true = (lo, inl (hit token_rows 6 tt))
      go false = unsigned_in (number_from w) (number_small w)

  class_in : (k : Class) (w : List ℕ) → InPlan m (plan_class k w p e)
  class_in C.Number w = number_in_lem w
  class_in C.Name w = sized_in (length w)
  class_in C.Variable w = strange_in (length w)
  class_in C.Keyword w = strange_in (length w)
  class_in C.Operator w = (lo, inl (hit token_rows 3 tt))
  class_in C.Other w = (lo, inl (hit token_rows 3 tt))

-- ---- what stands at p

-- by the kind of its first byte
abbrev start_of : List ℕ → ℕ → Kind → Token
start_of s p k = on_start k (plan_run s p (end_of s 58 p)) (judged_of (p + 1) (square_of (get_or s p 0) p)) (judged_of (p + 1) (T.Refusal 2 p))

judged_in : (m end : ℕ) (t : Token) → (256 < end → 256 ≤ m) → (end ≤ 256 → InPlan m t) → InPlan m (judged_of end t)
unfolding judged_of
judged_in m end t full i = go (ltb 256 end) refl
  where
    go : (b : Bool) → ltb 256 end ≡ b → InPlan m (cond b (T.Refusal 14 256) t)
    go true e = (full (ltb-true 256 end e), inr (refl, refl))
    go false e = i (ltb-false 256 end e)

-- m is not below the line's end, or not below 256: what ends past 256 is refused there
module _ (s : List ℕ) (m p : ℕ) (room : min (length s) 256 ≤ m) (h : p < length s) where
  square_in : (b : ℕ) → p + 1 ≤ m → InPlan m (square_of b p)
  unfolding square_of
  square_in b l = go (eqb b 40) (eqb b 41)
    where
      go : (x y : Bool) → InPlan m (cond x (T.Open p (p + 1)) (cond y (T.Close p (p + 1)) (T.Mark b p (p + 1))))
      go true y = (omega arith, l)
      go false true = (omega arith, l)
      go false false = (omega arith, l)

  -- one byte
  byte_in : (t : Token) → (p + 1 ≤ m → InPlan m t) → InPlan m (judged_of (p + 1) t)
  byte_in t f = judged_in m (p + 1) t (λ l. omega (arith, l)) (λ l. f (omega (arith, l)))

  run_in_lem : InPlan m (plan_run s p (end_of s 58 p))
  unfolding plan_word
  run_in_lem =
      let lo = (run_within s 58 (p + 1) (omega arith)).0 in
      let hi = (run_within s 58 (p + 1) (omega arith)).1 in
      let w = part s p (end_of s 58 p) in
      judged_in m (end_of s 58 p) _ (λ l. omega (arith, hi, l))
      (λ l. class_in m p (end_of s 58 p) (omega (arith, lo, hi, l)) (omega (arith, hi, l)) (class_of w) w)

  start_in : (k : Kind) → InPlan m (start_of s p k)
  start_in K.Digit = run_in_lem
  start_in K.Letter = run_in_lem
  start_in K.Bracket = byte_in _ (square_in (get_or s p 0))
  start_in K.White = run_in_lem
  start_in K.Mark = run_in_lem
  start_in K.Refused = byte_in _ (λ l. (omega (arith, l), inl (hit token_rows 2 tt)))

  inside_in : (b : Bool) → InPlan m (cond b (judged_of (p + 1) (T.Mark 58 p (p + 1))) (start_of s p (kind_of (get_or s p 0))))
  inside_in true = byte_in _ (λ l. (omega (arith, l), l))
  inside_in false = start_in (kind_of (get_or s p 0))

-- ---- the token at or after a place: m is not below the place

gap_in : (s : List ℕ) (m at : ℕ) → length s ≤ m → at ≤ m → gap_end s at ≤ m
gap_in s m at long h = elim (dec_le at (length s)) [
  | yes i ↦ omega (arith, (gap_within s at i).1)
  | no i ↦ rw (gap_start s at, gap_over s false at (omega arith)) h
]

from_in : (s : List ℕ) (m p : ℕ) → min (length s) 256 ≤ m → (length s ≤ m → p ≤ m) → InPlan m (plan_from s p)
from_in s m p room h = go (leb (length s) p) refl
  where
    rest : Token
    rest = cond (eqb (get_or s p 0) 58) (judged_of (p + 1) (T.Mark 58 p (p + 1))) (start_of s p (kind_of (get_or s p 0)))

    go : (b : Bool) → leb (length s) p ≡ b → InPlan m (cond b (judged_of (length s) (T.End p)) rest)
    go true e = judged_in m (length s) _ (λ l. omega (arith, l)) (λ l. h (omega (arith, l)))
    go false e = inside_in s m p room (leb-false (length s) p e) (eqb (get_or s p 0) 58)

pub plan_token : (s : List ℕ) (m at : ℕ) → min (length s) 256 ≤ m → at ≤ m → InPlan m (plan_token_at s at)
unfolding plan_token_at
plan_token s m at room h = from_in s m (gap_end s at) room (λ long. gap_in s m at long h)

-- an empty line is at its end
pub plan_empty : plan_token_at [] 0 ≡ T.End 0
unfolding plan_token_at gap_end gap judged_of
plan_empty = refl
