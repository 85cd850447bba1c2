-- What a byte is, and a letter without its case. RULES 2.
use Rattle.std.specs.Prelude.{ℕ, ◌+◌, List, [], ◌∷◌, Bool, true, false, cond, ◌&&◌, ◌||◌, leb, eqb, ltb}
use Prim.Native.Char.{code}
use Prim.Native.String as text
use Prim.Native.String.{String}
use Rattle.text_words.specs.declared.bytes.Kind.{Kind}
use Rattle.text_words.specs.declared.bytes.Kind.TheVariants as K

-- the bytes of a text of ASCII characters
unfoldable pub bytes : String → List ℕ
bytes text.[] = []
bytes (text.◌∷◌ c cs) = code c ∷ bytes cs

abbrev pub between : ℕ → ℕ → ℕ → Bool
between a b e = leb a b && leb b e

abbrev pub is_one_of : ℕ → List ℕ → Bool
is_one_of b [] = false
is_one_of b (x ∷ xs) = eqb b x || is_one_of b xs

-- "Bytes 48 to 57 are digits; 65 to 90 and 97 to 122 letters. Tab, LF, CR and space are white; only they and 33 to 126 are allowed"
unfoldable pub kind_of : ℕ → Kind
kind_of b =
    cond (between 48 b 57) K.Digit
    (cond (between 65 b 90 || between 97 b 122) K.Letter
    (cond (is_one_of b (bytes "()[]")) K.Bracket
    (cond (is_one_of b (9 ∷ 10 ∷ 13 ∷ 32 ∷ [])) K.White
    (cond (between 33 b 126) K.Mark
    K.Refused))))

abbrev pub is_digit : Kind → Bool
is_digit K.Digit = true
is_digit K.Letter = false
is_digit K.Bracket = false
is_digit K.White = false
is_digit K.Mark = false
is_digit K.Refused = false

abbrev pub is_letter : Kind → Bool
is_letter K.Digit = false
is_letter K.Letter = true
is_letter K.Bracket = false
is_letter K.White = false
is_letter K.Mark = false
is_letter K.Refused = false

abbrev pub is_white : Kind → Bool
is_white K.Digit = false
is_white K.Letter = false
is_white K.Bracket = false
is_white K.White = true
is_white K.Mark = false
is_white K.Refused = false

abbrev pub is_refused : Kind → Bool
is_refused K.Digit = false
is_refused K.Letter = false
is_refused K.Bracket = false
is_refused K.White = false
is_refused K.Mark = false
is_refused K.Refused = true

-- "A token ends at white space, a round or square bracket, `;`, a byte not allowed, .. and in plans `:`": the byte `stop`
abbrev pub is_wordly : Kind → Bool
is_wordly K.Digit = true
is_wordly K.Letter = true
is_wordly K.Bracket = false
is_wordly K.White = false
is_wordly K.Mark = true
is_wordly K.Refused = false

unfoldable pub in_run : ℕ → ℕ → Bool
in_run stop b = cond (eqb b (code ";")) false (cond (eqb b stop) false (is_wordly (kind_of b)))

-- what begins with a byte of a kind: a run, a bracket, or what a byte not allowed makes
abbrev pub on_start : {A : Type 0} → Kind → A → A → A → A
on_start K.Digit run bracket bad = run
on_start K.Letter run bracket bad = run
on_start K.Bracket run bracket bad = bracket
on_start K.White run bracket bad = run
on_start K.Mark run bracket bad = run
on_start K.Refused run bracket bad = bad

-- "Letters compare without case"
unfoldable pub lower_of : ℕ → ℕ
lower_of b = cond (ltb b (code "A")) b (cond (ltb (code "Z") b) b (b + 32))
