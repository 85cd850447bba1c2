-- The ways to a type that is due. Assumes nothing.
use Rattle.std.specs.Prelude.{None, Some, Err}
use mathlib.Core.Path.{◌≡◌, refl}
use mathlib.Core.List.{List, [], ◌∷◌}
use Prim.Native.Nat.{ℕ, ◌+◌, ◌≤◌, ◌<◌}
use native.Mathlib.Omega.{arith}
use types.Run.{OneOf, miss}
use denote.Enum.Declared.{tag_of}
use borrow.Author.Tests.{lt-ltb, le-ltb}
use lib.ListN.{length}
use Rattle.text_words.specs.Bytes.{bytes}
use Rattle.text_tokens.specs.Runs.{part}
use Rattle.text_tokens.specs.Tokens.{token_at, spot_at}
use Rattle.text_tokens.specs.declared.tokens.Token.{Token}
use Rattle.text_tokens.specs.declared.tokens.Token.TheVariants as T
use Rattle.text_tokens.specs.declared.tokens.Word.{Word}
use Rattle.text_tokens.specs.declared.tokens.Word.TheVariants as W
use Rattle.text_tokens.specs.contracts.tokens.Token as token-type
use Rattle.text_tokens.specs.contracts.tokens.Word as word-type
use Rattle.text_tokens.proofs.Within.{Within, token_within}
use Rattle.domain_meaning.specs.Read.{refused}
use Rattle.domain_meaning.specs.Due.{after_of, number_of, place_of, wrong, on_open}
use Rattle.domain_meaning.specs.Tables.{Table, lookup}
use Rattle.domain_meaning.specs.Lists.{type_named, type_of_word, type_of_other, type_due}
use Rattle.domain_due.specs.Answers.{answer_of, Ahead, Parsed, Done, Refused}
use Rattle.domain_due.proofs.Dues.{not_word, not_open}
use Rattle.domain_typed_lists.specs.Outcome.{Below}

-- ---- no word

pub bracket_in : (s : List ℕ) (at p n : ℕ) → at ≤ length s → token_at s at ≡ T.Open p n → p < length s
unfolding Within
bracket_in s at p n h e = let w = rw e at (token_within s at h) in omega (arith, w.1, w.2)

module _ (s : List ℕ) (from at : ℕ) where
  pub other_else : (t : Token) (r : Parsed) → t ≡ token_at s from → OneOf (0 ∷ 1 ∷ 3 ∷ 4 ∷ 5 ∷ 6 ∷ []) (tag_of token-type.the_type t)
      → r ≡ Refused (number_of 13 t) (place_of t)
      → r ≡ answer_of (on_open (token_at s from) (type_of_other s) (wrong 13 (token_at s from)) at)
  other_else t r e o q = rw (← e, not_open t _ _ o) q

  module _ (p n : ℕ) (e : token_at s from ≡ T.Open p n) where
    pub other_bracket : spot_at s (p + 1) (bytes "either") ≡ None
        → Refused 3 p ≡ answer_of (on_open (token_at s from) (type_of_other s) (wrong 13 (token_at s from)) at)
    other_bracket o = rw (e, o)

    pub other_either : (a z : ℕ) → spot_at s (p + 1) (bytes "either") ≡ Some (a, z)
        → Refused 11 a ≡ answer_of (on_open (token_at s from) (type_of_other s) (wrong 13 (token_at s from)) at)
    other_either a z o = rw (e, o)

-- an answer with no number is a refusal
pub never_ahead : (r : Parsed) (n at : ℕ) → Below 0 r → Ahead n at r
unfolding Below Ahead
never_ahead (Done a v) n at h = absurd (let z : ⊥ = omega arith in z)
never_ahead (Err why) n at h = tt

-- ---- a word

no_type : (s : List ℕ) (ts : Table) (b : ℕ) (k : Word) (p e at : ℕ) → OneOf (1 ∷ 2 ∷ 3 ∷ []) (tag_of word-type.the_type k)
    → type_of_word s ts b k p e at ≡ refused 3 p
no_type s ts b W.Name p e at h = absurd (miss (1 ∷ 2 ∷ 3 ∷ []) 0 tt h)
no_type s ts b W.Variable p e at h = refl
no_type s ts b W.Keyword p e at h = refl
no_type s ts b W.Operator p e at h = refl

module _ (s : List ℕ) (ts : Table) (b at : ℕ) where
  pub type_else : (t : Token) (r : Parsed) → t ≡ token_at s at → OneOf (1 ∷ 2 ∷ 3 ∷ 4 ∷ 5 ∷ 6 ∷ []) (tag_of token-type.the_type t)
      → ((j : ℕ) → r ≡ answer_of (on_open (token_at s at) (type_of_other s) (wrong 13 (token_at s at)) j)) → r ≡ answer_of (type_due s ts b at)
  unfolding type_due
  type_else t r e o f = rw (← e, not_word t _ _ o) (rw (← e) at (f (after_of t)))

  pub type_other : (k : Word) (p e : ℕ) → token_at s at ≡ T.Word k p e → OneOf (1 ∷ 2 ∷ 3 ∷ []) (tag_of word-type.the_type k)
      → Refused 3 p ≡ answer_of (type_due s ts b at)
  unfolding type_due
  type_other k p e q o = rw (q, no_type s ts b k p e e o)

  module _ (p e : ℕ) (q : token_at s at ≡ T.Word W.Name p e) where
    pub type_unknown : lookup ts (part s p e) ≡ None → Refused 8 p ≡ answer_of (type_due s ts b at)
    unfolding type_due type_named
    type_unknown f = rw (q, f)

    pub type_late : (i : ℕ) → lookup ts (part s p e) ≡ Some i → b ≤ i → Refused 8 p ≡ answer_of (type_due s ts b at)
    unfolding type_due type_named
    type_late i f h = rw (q, f, le-ltb i b h)

    pub type_known : (i : ℕ) → lookup ts (part s p e) ≡ Some i → i < b → Done e i ≡ answer_of (type_due s ts b at)
    unfolding type_due type_named
    type_known i f h = rw (q, f, lt-ltb i b h)
