-- Words: equal without case, names, and the place of a word in a list of words. RULES 2.
use Rattle.std.specs.Prelude.{ℕ, suc, ◌+◌, List, [], ◌∷◌, Bool, true, false, cond, ◌&&◌, ◌||◌, get_or, drop, eqb, None, Option, Some}
use Prim.Native.Char.{code}
use Rattle.text_words.specs.Bytes.{kind_of, lower_of, is_letter}
use Rattle.text_words.specs.declared.bytes.Kind.{Kind}
use Rattle.text_words.specs.declared.bytes.Kind.TheVariants as K

-- "Letters compare without case"
unfoldable pub same_word : List ℕ → List ℕ → Bool
same_word [] [] = true
same_word [] (b ∷ bs) = false
same_word (a ∷ xs) [] = false
same_word (a ∷ xs) (b ∷ bs) = eqb (lower_of a) (lower_of b) && same_word xs bs

-- ---- "A name is a letter, then letters, digits, `-` and `_`."

abbrev pub in_name : Kind → ℕ → Bool
in_name K.Digit b = true
in_name K.Letter b = true
in_name K.Bracket b = false
in_name K.White b = false
in_name K.Mark b = eqb b (code "-") || eqb b (code "_")
in_name K.Refused b = false

unfoldable pub name_byte : ℕ → Bool
name_byte b = in_name (kind_of b) b

unfoldable pub name_bytes : List ℕ → Bool
name_bytes [] = true
name_bytes (b ∷ bs) = name_byte b && name_bytes bs

unfoldable pub is_name : List ℕ → Bool
is_name [] = false
is_name (b ∷ bs) = is_letter (kind_of b) && name_bytes bs

-- ---- a word in a list of words

-- where the word w first stands among some words, counted from i
unfoldable pub place_from : ℕ → List (List ℕ) → List ℕ → Option ℕ
place_from i [] w = None
place_from i (v ∷ vs) w = cond (same_word v w) (Some i) (place_from (i + 1) vs w)

-- how many bytes stand before the first space
unfoldable pub unspaced : List ℕ → ℕ
unspaced [] = 0
unspaced (b ∷ bs) = cond (eqb b (code " ")) 0 (suc (unspaced bs))

-- the place of the first space at or after p, or the list's end
unfoldable pub space_from : List ℕ → ℕ → ℕ
space_from list p = p + unspaced (drop p list)

abbrev pub onto : ℕ → List (List ℕ) → List (List ℕ)
onto b [] = (b ∷ []) ∷ []
onto b (w ∷ ws) = (b ∷ w) ∷ ws

-- the words of a list that is written with single spaces
unfoldable pub words_of : List ℕ → List (List ℕ)
words_of [] = [] ∷ []
words_of (b ∷ bs) = cond (eqb b (code " ")) ([] ∷ words_of bs) (onto b (words_of bs))

unfoldable pub word_in : List ℕ → List ℕ → Option ℕ
word_in list w = place_from 0 (words_of list) w

-- what stands in xs at the place that was found, or else x
abbrev pub picked : {A : Type 0} → Option ℕ → List A → A → A
picked (Some i) xs x = get_or xs i x
picked None xs x = x
