-- The fixed words, listed as RULES 2, RULES 4 and RULES 6 list them.
use Rattle.std.specs.Prelude.{ℕ, List, [], ◌∷◌, Bool, is_some}
use Rattle.text_words.specs.Bytes.{bytes}
use Rattle.text_words.specs.Spelling.{word_in, picked}
use Rattle.text_words.specs.declared.fixed.HeadWord.{HeadWord}
use Rattle.text_words.specs.declared.fixed.HeadWord.TheVariants as H

-- "`and`, `not` around one atom or comparison, .. comparisons `= < <= > >=`, `+` of two, `-` of one or two expressions,
-- effects `assign`, `increase`, `decrease`"
abbrev pub heads : List HeadWord
heads = H.And ∷ H.Not ∷ H.Equal ∷ H.Less ∷ H.AtMost ∷ H.More ∷ H.AtLeast ∷ H.Plus ∷ H.Minus ∷ H.Assign ∷ H.Increase ∷ H.Decrease ∷ []

unfoldable pub head_of : List ℕ → HeadWord
head_of w =
    picked (word_in (bytes "and not = < <= > >= + - assign increase decrease") w)
    heads H.Other

-- "a requirement flag other than `:strips :typing :equality :negative-preconditions :fluents :durative-actions`"
unfoldable pub is_flag : List ℕ → Bool
is_flag w = is_some (word_in (bytes ":strips :typing :equality :negative-preconditions :fluents :durative-actions") w)

-- "the words `or imply forall exists when either * / #t scale-up scale-down change :metric :axiom :derived`; .. `?duration` elsewhere"
unfoldable pub is_listed : List ℕ → Bool
is_listed w =
    is_some (word_in (bytes "or imply forall exists when either * / #t scale-up scale-down change :metric :axiom :derived ?duration") w)

-- "`and`, `not`, `assign`, `increase` and `decrease` can't be declared"
unfoldable pub is_reserved : List ℕ → Bool
is_reserved w = is_some (word_in (bytes "and not assign increase decrease") w)

-- "Other words are `= < <= > >= + - * / #t`."
unfoldable pub is_operator : List ℕ → Bool
is_operator w = is_some (word_in (bytes "= < <= > >= + - * / #t") w)
