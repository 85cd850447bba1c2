-- The word that a token is, as the part of the text between its places. Assumes nothing.
use mathlib.Core.Path.{◌≡◌, refl}
use mathlib.Core.List.{List, [], ◌∷◌}
use Prim.Native.Nat.{ℕ}
use types.Run.{OneOf, miss}
use denote.Enum.Declared.{tag_of}
use Rattle.text_tokens.specs.Runs.{part}
use Rattle.text_tokens.specs.Tokens.{word_of}
use Rattle.text_tokens.specs.declared.tokens.Token.{Token}
use Rattle.text_tokens.specs.declared.tokens.Token.TheVariants as T
use Rattle.text_tokens.specs.declared.tokens.Word.{Word}
use Rattle.text_tokens.specs.contracts.tokens.Token as token-type

pub word_is : (s : List ℕ) (t : Token) (k : Word) (p e : ℕ) → t ≡ T.Word k p e → word_of s t ≡ part s p e
unfolding word_of
word_is s t k p e q = rw q

pub word_none : (s : List ℕ) (t : Token) → OneOf (1 ∷ 2 ∷ 3 ∷ 4 ∷ 5 ∷ 6 ∷ []) (tag_of token-type.the_type t) → word_of s t ≡ []
unfolding word_of
word_none s (T.Word k p e) h = absurd (miss (1 ∷ 2 ∷ 3 ∷ 4 ∷ 5 ∷ 6 ∷ []) 0 tt h)
word_none s (T.Number z p e) h = refl
word_none s (T.Open p n) h = refl
word_none s (T.Close p n) h = refl
word_none s (T.Mark m p n) h = refl
word_none s (T.Refusal k p) h = refl
word_none s (T.End p) h = refl
