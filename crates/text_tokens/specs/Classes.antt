-- What a run of bytes is, by itself. RULES 2.
use Rattle.std.specs.Prelude.{ℕ, List, [], ◌∷◌, Bool, false, cond, ◌&&◌, ◌||◌, drop, eqb}
use Prim.Native.Char.{code}
use Rattle.text_words.specs.Bytes.{kind_of, is_digit}
use Rattle.text_words.specs.Spelling.{is_name}
use Rattle.text_words.specs.Fixed.{is_operator}
use Rattle.text_tokens.specs.declared.classes.Class.{Class}
use Rattle.text_tokens.specs.declared.classes.Class.TheVariants as C

-- "What begins with a digit, or a minus and a digit, is a number"
abbrev pub begins_digit : List ℕ → Bool
begins_digit [] = false
begins_digit (b ∷ bs) = is_digit (kind_of b)

unfoldable pub begins_number : List ℕ → Bool
begins_number [] = false
begins_number (b ∷ bs) = is_digit (kind_of b) || (eqb b (code "-") && begins_digit bs)

abbrev pub begun_by : ℕ → List ℕ → Bool
begun_by x [] = false
begun_by x (b ∷ bs) = eqb b x

-- "`?` before a name makes a variable, `:` a keyword"
abbrev pub is_marked : ℕ → List ℕ → Bool
is_marked mark w = begun_by mark w && is_name (drop 1 w)

unfoldable pub class_of : List ℕ → Class
class_of w =
    cond (begins_number w) C.Number
    (cond (is_name w) C.Name
    (cond (is_marked (code "?") w) C.Variable
    (cond (is_marked (code ":") w) C.Keyword
    (cond (is_operator w) C.Operator
    C.Other))))
