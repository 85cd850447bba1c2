-- The ways through the tokens' definitions, each from what the code knows there. Assumes nothing.
use Rattle.std.specs.Prelude.{None, Some, Option}
use mathlib.Core.Path.{◌≡◌, refl}
use mathlib.Core.List.{List, [], ◌∷◌}
use mathlib.Core.Bool.{true, false}
use Prim.Native.Nat.{ℕ, zero, suc, ◌+◌, ◌-◌, ◌^◌, ◌≤◌, ◌<◌}
use native.Mathlib.Omega.{arith}
use lib.IntN.{pos, ◌-ℤ◌}
use lib.Signed.{mag}
use lib.Dec.{lit<}
use lib.ListN.{length, get_or}
use types.Run.{OneOf, miss}
use denote.Enum.Declared.{tag_of}
use borrow.Author.Tests.{eq-eqb, ne_eqb, lt-ltb, le-leb, lt-leb}
use Rattle.text_words.specs.Bytes.{kind_of, on_start}
use Rattle.text_words.specs.Spelling.{same_word}
use Rattle.text_words.specs.declared.bytes.Kind.{Kind}
use Rattle.text_words.specs.declared.bytes.Kind.TheVariants as K
use Rattle.text_words.specs.contracts.bytes.Kind as kind-type
use Rattle.text_tokens.specs.Runs.{part, gap_end, run_end}
use Rattle.text_tokens.specs.Numbers.{Small}
use Rattle.text_tokens.specs.Tokens.{is_past, bracket_of, domain_word, token_at, spot_at, judged_of, square_of, plan_run, end_of, plan_token_at}
use Rattle.text_tokens.specs.declared.tokens.Token.{Token}
use Rattle.text_tokens.specs.declared.tokens.Token.TheVariants as T

-- ---- signs

pub minus_mag : (m : ℕ) → m < 1000000000000 → mag (pos 0 -ℤ pos m) < 2 ^ 63
minus_mag zero h = lit< tt
minus_mag (suc n) h = let e : suc n - suc 0 ≡ n = omega arith in rw (lt-ltb 0 (suc n) (omega arith), e) (omega arith)

pub small_at : (n : Option ℕ) (m : ℕ) → n ≡ Some m → Small n → m < 1000000000000
small_at n m e h = rw e at h

-- ---- what begins a run

pub starts_run : {A : Type 0} (k : Kind) (a b c : A) → OneOf (0 ∷ 1 ∷ 3 ∷ 4 ∷ []) (tag_of kind-type.the_type k) → on_start k a b c ≡ a
starts_run K.Digit a b c h = refl
starts_run K.Letter a b c h = refl
starts_run K.Bracket a b c h = absurd (miss (0 ∷ 1 ∷ 3 ∷ 4 ∷ []) 2 tt h)
starts_run K.White a b c h = refl
starts_run K.Mark a b c h = refl
starts_run K.Refused a b c h = absurd (miss (0 ∷ 1 ∷ 3 ∷ 4 ∷ []) 5 tt h)

odd_run : {A : Type 0} (k : Kind) (a b c : A) → OneOf (3 ∷ 4 ∷ []) (tag_of kind-type.the_type k) → on_start k a b c ≡ a
odd_run K.Digit a b c h = refl
odd_run K.Letter a b c h = refl
odd_run K.Bracket a b c h = absurd (miss (3 ∷ 4 ∷ []) 2 tt h)
odd_run K.White a b c h = refl
odd_run K.Mark a b c h = refl
odd_run K.Refused a b c h = absurd (miss (3 ∷ 4 ∷ []) 5 tt h)

-- ---- domain and problem

module _ (s : List ℕ) (from p : ℕ) (g : p ≡ gap_end s from) where
  pub token_past : is_past (length s) p ≡ true → T.Refusal 1 32768 ≡ token_at s from
  unfolding token_at
  token_past h = rw (← g, h)

  pub token_end : is_past (length s) p ≡ false → length s ≤ p → T.End p ≡ token_at s from
  unfolding token_at
  token_end h e = rw (← g, h, le-leb (length s) p e)

  pub spot_past : (w : List ℕ) → is_past (length s) p ≡ true → None ≡ spot_at s from w
  unfolding spot_at
  spot_past w h = rw (← g, h)

  pub spot_end : (w : List ℕ) → is_past (length s) p ≡ false → length s ≤ p → None ≡ spot_at s from w
  unfolding spot_at
  spot_end w h e = rw (← g, h, le-leb (length s) p e)

  module _ (h : is_past (length s) p ≡ false) (i : p < length s) where
    pub token_bad : kind_of (get_or s p 0) ≡ K.Refused → T.Refusal 2 p ≡ token_at s from
    unfolding token_at
    token_bad k = rw (← g, h, lt-leb (length s) p i, k)

    pub token_bracket : (t : Token) → kind_of (get_or s p 0) ≡ K.Bracket → t ≡ bracket_of (get_or s p 0) p → t ≡ token_at s from
    unfolding token_at
    token_bracket t k e = rw (← g, h, lt-leb (length s) p i, k) e

    pub token_run : (t : Token) (e : ℕ) → OneOf (0 ∷ 1 ∷ 3 ∷ 4 ∷ []) (tag_of kind-type.the_type (kind_of (get_or s p 0)))
        → e ≡ run_end s 59 (p + 1) → t ≡ domain_word (part s p e) p e → t ≡ token_at s from
    unfolding token_at
    token_run t e k r d = rw (← g, h, lt-leb (length s) p i, starts_run (kind_of (get_or s p 0)) _ _ _ k, ← r) d

    module _ (w : List ℕ) (e : ℕ) (r : e ≡ run_end s 59 (p + 1)) where
      pub spot_found : same_word (part s p e) w ≡ true → Some (p, e) ≡ spot_at s from w
      unfolding spot_at
      spot_found q = rw (← g, h, lt-leb (length s) p i, ← r, q)

      pub spot_other : same_word (part s p e) w ≡ false → None ≡ spot_at s from w
      unfolding spot_at
      spot_other q = rw (← g, h, lt-leb (length s) p i, ← r, q)

-- ---- plan lines

module _ (s : List ℕ) (from p : ℕ) (g : p ≡ gap_end s from) where
  pub plan_end : (t : Token) → length s ≤ p → t ≡ judged_of (length s) (T.End p) → t ≡ plan_token_at s from
  unfolding plan_token_at
  plan_end t e j = rw (← g, le-leb (length s) p e) j

  module _ (t : Token) (i : p < length s) where
    pub plan_colon : get_or s p 0 ≡ 58 → t ≡ judged_of (p + 1) (T.Mark 58 p (p + 1)) → t ≡ plan_token_at s from
    unfolding plan_token_at
    plan_colon c j = rw (← g, lt-leb (length s) p i, eq-eqb (get_or s p 0) 58 c) j

    module _ (c : get_or s p 0 ≡ 58 → ⊥) where
      pub plan_bad : kind_of (get_or s p 0) ≡ K.Refused → t ≡ judged_of (p + 1) (T.Refusal 2 p) → t ≡ plan_token_at s from
      unfolding plan_token_at
      plan_bad k j = rw (← g, lt-leb (length s) p i, ne_eqb (get_or s p 0) 58 c, k) j

      pub plan_bracket : (b : Token) → kind_of (get_or s p 0) ≡ K.Bracket → b ≡ square_of (get_or s p 0) p → t ≡ judged_of (p + 1) b → t ≡ plan_token_at s from
      unfolding plan_token_at
      plan_bracket b k q j = rw (← g, lt-leb (length s) p i, ne_eqb (get_or s p 0) 58 c, k, ← q) j

      -- what begins with a digit or a letter is the run there
      pub plan_digit : kind_of (get_or s p 0) ≡ K.Digit → t ≡ plan_run s p (end_of s 58 p) → t ≡ plan_token_at s from
      unfolding plan_token_at
      plan_digit k j = rw (← g, lt-leb (length s) p i, ne_eqb (get_or s p 0) 58 c, k) j

      pub plan_letter : kind_of (get_or s p 0) ≡ K.Letter → t ≡ plan_run s p (end_of s 58 p) → t ≡ plan_token_at s from
      unfolding plan_token_at
      plan_letter k j = rw (← g, lt-leb (length s) p i, ne_eqb (get_or s p 0) 58 c, k) j

      pub plan_odd : OneOf (3 ∷ 4 ∷ []) (tag_of kind-type.the_type (kind_of (get_or s p 0))) → t ≡ plan_run s p (end_of s 58 p) → t ≡ plan_token_at s from
      unfolding plan_token_at
      plan_odd k j = rw (← g, lt-leb (length s) p i, ne_eqb (get_or s p 0) 58 c, odd_run (kind_of (get_or s p 0)) _ _ _ k) j
