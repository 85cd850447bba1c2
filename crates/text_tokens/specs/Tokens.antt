-- "Each token read is a word, a number, a bracket or a refusal." RULES 2.
use Rattle.std.specs.Prelude.{ℤ, ℕ, ◌+◌, List, [], Bool, false, cond, ◌||◌, length, get_or, eqb, leb, ltb, None, Option, Some}
use Prim.Native.Char.{code}
use Rattle.text_words.specs.Bytes.{kind_of, on_start}
use Rattle.text_words.specs.Spelling.{same_word}
use Rattle.text_words.specs.Fixed.{is_listed}
use Rattle.text_tokens.specs.Runs.{part, gap_end, run_end}
use Rattle.text_tokens.specs.Numbers.{number_of}
use Rattle.text_tokens.specs.Classes.{begun_by, class_of}
use Rattle.text_tokens.specs.declared.classes.Class.{Class}
use Rattle.text_tokens.specs.declared.classes.Class.TheVariants as C
use Rattle.text_tokens.specs.declared.tokens.Word.{Word}
use Rattle.text_tokens.specs.declared.tokens.Word.TheVariants as W
use Rattle.text_tokens.specs.declared.tokens.Token.{Token}
use Rattle.text_tokens.specs.declared.tokens.Token.TheVariants as T

-- a word of a length, from p to e; "names 32 bytes", "the mark isn't counted": 5 if it has more than `most`
unfoldable pub sized_of : Word → ℕ → ℕ → ℕ → ℕ → Token
sized_of kind most long p e = cond (ltb most long) (T.Refusal 5 p) (T.Word kind p e)

-- 6: "number malformed, too large or too fine"
abbrev pub as_token : Option ℤ → ℕ → ℕ → Token
as_token (Some z) p e = T.Number z p e
as_token None p e = T.Refusal 6 p

unfoldable pub number_token : List ℕ → ℕ → ℕ → Token
number_token w p e = as_token (number_of w) p e

-- "A name is handed back as the part of the caller's text": the word that a token of s is; of any other token no byte
unfoldable pub word_of : List ℕ → Token → List ℕ
word_of s (T.Word k p e) = part s p e
word_of s (T.Number z p e) = []
word_of s (T.Open p n) = []
word_of s (T.Close p n) = []
word_of s (T.Mark b p n) = []
word_of s (T.Refusal k p) = []
word_of s (T.End p) = []

-- ---- domain and problem

-- what a run w from p to e is by its class; 3: "every other run is 3"
abbrev pub by_class : Class → List ℕ → ℕ → ℕ → Token
by_class C.Number w p e = number_token w p e
by_class C.Name w p e = sized_of W.Name 32 (length w) p e
by_class C.Variable w p e = sized_of W.Variable 33 (length w) p e
by_class C.Keyword w p e = sized_of W.Keyword 33 (length w) p e
by_class C.Operator w p e = T.Word W.Operator p e
by_class C.Other w p e = T.Refusal 3 p

-- "In domain and problem all these are 11, whatever else applies there."
unfoldable pub domain_word : List ℕ → ℕ → ℕ → Token
domain_word w p e = cond (is_listed w) (T.Refusal 11 p) (by_class (class_of w) w p e)

-- a place at or past 32,768 of a text that is longer
unfoldable pub is_past : ℕ → ℕ → Bool
is_past long p = cond (leb long 32768) false (leb 32768 p)

unfoldable pub bracket_of : ℕ → ℕ → Token
bracket_of b p = cond (eqb b (code "(")) (T.Open p (p + 1)) (cond (eqb b (code ")")) (T.Close p (p + 1)) (T.Refusal 3 p))

-- the run that begins at p ends here; `stop` ends it too
abbrev pub end_of : List ℕ → ℕ → ℕ → ℕ
end_of s stop p = run_end s stop (p + 1)

abbrev pub domain_run : List ℕ → ℕ → ℕ → Token
domain_run s p e = domain_word (part s p e) p e

-- what stands at p, after a gap. "2 byte not allowed"; 1 is for what begins past the most bytes
abbrev pub token_from : List ℕ → ℕ → Token
token_from s p =
    cond (is_past (length s) p) (T.Refusal 1 32768)
    (cond (leb (length s) p) (T.End p)
    (on_start (kind_of (get_or s p 0)) (domain_run s p (end_of s (code ";") p)) (bracket_of (get_or s p 0) p) (T.Refusal 2 p)))

-- the first token at or after a place of a domain or problem
unfoldable pub token_at : List ℕ → ℕ → Token
token_at s from = token_from s (gap_end s from)

-- where the next token is a given word, whatever token that is: `either` after a bracket, `?duration` in its rule
abbrev pub spot_from : List ℕ → ℕ → ℕ → List ℕ → Option (ℕ × ℕ)
spot_from s p e w =
    cond (is_past (length s) p || leb (length s) p) None (cond (same_word (part s p e) w) (Some (p, e)) None)

abbrev pub spot_behind : List ℕ → ℕ → List ℕ → Option (ℕ × ℕ)
spot_behind s p w = spot_from s p (end_of s (code ";") p) w

unfoldable pub spot_at : List ℕ → ℕ → List ℕ → Option (ℕ × ℕ)
spot_at s from w = spot_behind s (gap_end s from) w

-- ---- plan lines

-- "of one too long, only what ends before column 257 is judged, and if none of it is refused it is 14": a token that ends at `end`
unfoldable pub judged_of : ℕ → Token → Token
judged_of end t = cond (ltb 256 end) (T.Refusal 14 256) t

-- a variable or keyword in a plan is 3, but 5 if its name is too long
unfoldable pub strange_of : ℕ → ℕ → Token
strange_of long p = cond (ltb 33 long) (T.Refusal 5 p) (T.Refusal 3 p)

-- "outside plans perhaps a leading minus": in a plan it makes a number malformed
unfoldable pub plan_number : List ℕ → ℕ → ℕ → Token
plan_number w p e = cond (begun_by (code "-") w) (T.Refusal 6 p) (number_token w p e)

abbrev pub plan_class : Class → List ℕ → ℕ → ℕ → Token
plan_class C.Number w p e = plan_number w p e
plan_class C.Name w p e = sized_of W.Name 32 (length w) p e
plan_class C.Variable w p e = strange_of (length w) p
plan_class C.Keyword w p e = strange_of (length w) p
plan_class C.Operator w p e = T.Refusal 3 p
plan_class C.Other w p e = T.Refusal 3 p

unfoldable pub plan_word : List ℕ → ℕ → ℕ → Token
plan_word w p e = plan_class (class_of w) w p e

unfoldable pub square_of : ℕ → ℕ → Token
square_of b p = cond (eqb b (code "(")) (T.Open p (p + 1)) (cond (eqb b (code ")")) (T.Close p (p + 1)) (T.Mark b p (p + 1)))

abbrev pub plan_run : List ℕ → ℕ → ℕ → Token
plan_run s p e = judged_of e (plan_word (part s p e) p e)

-- "in plans `:`, which is a token there, as are square brackets"
abbrev pub plan_from : List ℕ → ℕ → Token
plan_from s p =
    cond (leb (length s) p) (judged_of (length s) (T.End p))
    (cond (eqb (get_or s p 0) (code ":")) (judged_of (p + 1) (T.Mark (code ":") p (p + 1)))
    (on_start (kind_of (get_or s p 0)) (plan_run s p (end_of s (code ":") p)) (judged_of (p + 1) (square_of (get_or s p 0) p)) (judged_of (p + 1) (T.Refusal 2 p))))

-- the first token at or after a place of a plan line
unfoldable pub plan_token_at : List ℕ → ℕ → Token
plan_token_at s from = plan_from s (gap_end s from)
