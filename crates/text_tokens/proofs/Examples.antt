-- Worked examples: what the definitions say of short texts, each by computation. A row is a text, a place and the token there.
use Rattle.std.specs.Prelude.{None, Some}
use mathlib.Core.Path.{◌≡◌, refl}
use mathlib.Core.List.{List, [], ◌∷◌, ◌++◌}
use Prim.Native.Nat.{ℕ}
use Prim.Native.Char.{code}
use Prim.Native.String.{String}
use lib.ListN.{replicate}
use lib.IntN.{pos, negsuc}
use Rattle.text_words.specs.Bytes.{bytes, kind_of, lower_of, in_run}
use Rattle.text_words.specs.Spelling.{same_word, name_byte, name_bytes, is_name, place_from, words_of, word_in}
use Rattle.text_words.specs.Fixed.{is_listed, is_operator}
use Rattle.text_tokens.specs.Runs.{gap_step, gap, gap_end, run, run_end}
use Rattle.text_tokens.specs.Numbers.{leading, decimal, scale_of, fraction_of, number_from, number_of}
use Rattle.text_tokens.specs.Classes.{begins_number, class_of}
use Rattle.text_tokens.specs.Tokens.{sized_of, number_token, domain_word, is_past, bracket_of, token_at, spot_at, judged_of, strange_of, plan_number, plan_word}
use Rattle.text_tokens.specs.Tokens.{square_of, plan_token_at}
use Rattle.text_tokens.specs.declared.tokens.Token.{Token}
use Rattle.text_tokens.specs.declared.tokens.Token.TheVariants as T
use Rattle.text_tokens.specs.declared.tokens.Word.TheVariants as W

-- on an `unfolding` line this opens all that reading a token goes through
unfoldable pub open_tokens : Unit {0}
unfolding bytes kind_of lower_of in_run same_word name_byte name_bytes is_name place_from words_of word_in is_listed is_operator gap_step gap gap_end run run_end
    leading decimal scale_of fraction_of number_from number_of begins_number class_of sized_of number_token domain_word is_past bracket_of token_at spot_at
    judged_of strange_of plan_number plan_word square_of plan_token_at
open_tokens = tt

pub data Row : Type 0 where
  row : String → ℕ → Token → Row

abbrev pub read_all : (List ℕ → ℕ → Token) → List Row → List Token
read_all read [] = []
read_all read (row text from token ∷ rows) = read (bytes text) from ∷ read_all read rows

abbrev pub wanted : List Row → List Token
wanted [] = []
wanted (row text from token ∷ rows) = token ∷ wanted rows

-- every row's token is the one that is read there
abbrev pub Each : (List ℕ → ℕ → Token) → List Row → Type 0
Each read rows = read_all read rows ≡ wanted rows

-- domain and problem: words
domain_words_rows : List Row
domain_words_rows =
    row "and" 0 (T.Word W.Name 0 3)
    ∷ row " pump-2_b)" 0 (T.Word W.Name 1 9)
    ∷ row "?p)" 0 (T.Word W.Variable 0 2)
    ∷ row ":Action" 0 (T.Word W.Keyword 0 7)
    ∷ row "<=" 0 (T.Word W.Operator 0 2)
    ∷ row "- pump" 0 (T.Word W.Operator 0 1)
    ∷ row "(- 5)" 1 (T.Word W.Operator 1 2)
    ∷ row "metric" 0 (T.Word W.Name 0 6)
    ∷ row "?or" 0 (T.Word W.Variable 0 3)
    ∷ row ":or" 0 (T.Word W.Keyword 0 3)
    ∷ row "; a comment\n x" 0 (T.Word W.Name 13 14)
    ∷ row "a;b" 1 (T.End 3)
    ∷ row "a b" 1 (T.Word W.Name 2 3)
    ∷ row "" 0 (T.End 0)
    ∷ row "  " 0 (T.End 2)
    ∷ row "abcdefghijklmnopqrstuvwxyz-12345" 0 (T.Word W.Name 0 32)
    ∷ row "?abcdefghijklmnopqrstuvwxyz-12345" 0 (T.Word W.Variable 0 33)
    ∷ []

domain_words : Each token_at domain_words_rows
unfolding open_tokens domain_words_rows
domain_words = refl

-- domain and problem: numbers in thousandths
domain_numbers_rows : List Row
domain_numbers_rows =
    row "0.5" 0 (T.Number (pos 500) 0 3)
    ∷ row "5" 0 (T.Number (pos 5000) 0 1)
    ∷ row "-5" 0 (T.Number (negsuc 4999) 0 2)
    ∷ row "-0" 0 (T.Number (pos 0) 0 2)
    ∷ row "999999999.999" 0 (T.Number (pos 999999999999) 0 13)
    ∷ row "-999999999.999)" 0 (T.Number (negsuc 999999999998) 0 14)
    ∷ row "(-5)" 1 (T.Number (negsuc 4999) 1 3)
    ∷ row "007.10" 0 (T.Number (pos 7100) 0 6)
    ∷ []

domain_numbers : Each token_at domain_numbers_rows
unfolding open_tokens domain_numbers_rows
domain_numbers = refl

-- domain and problem: brackets and refusals 2, 3, 5, 6 and 11
domain_refused_rows : List Row
domain_refused_rows =
    row "(a)" 0 (T.Open 0 1)
    ∷ row "a )" 1 (T.Close 2 3)
    ∷ row "a[0]" 1 (T.Refusal 3 1)
    ∷ row "]" 0 (T.Refusal 3 0)
    ∷ row "\u{7f}a" 0 (T.Refusal 2 0)
    ∷ row "; \u{b}" 0 (T.Refusal 2 2)
    ∷ row "a\u{1}b" 0 (T.Word W.Name 0 1)
    ∷ row "?" 0 (T.Refusal 3 0)
    ∷ row ":" 0 (T.Refusal 3 0)
    ∷ row "a.b" 0 (T.Refusal 3 0)
    ∷ row "a:b" 0 (T.Refusal 3 0)
    ∷ row "-a" 0 (T.Refusal 3 0)
    ∷ row "--5" 0 (T.Refusal 3 0)
    ∷ row "+5" 0 (T.Refusal 3 0)
    ∷ row ".5" 0 (T.Refusal 3 0)
    ∷ row "_a" 0 (T.Refusal 3 0)
    ∷ row "#x" 0 (T.Refusal 3 0)
    ∷ row "abcdefghijklmnopqrstuvwxyz-123456" 0 (T.Refusal 5 0)
    ∷ row " ?abcdefghijklmnopqrstuvwxyz-123456" 0 (T.Refusal 5 1)
    ∷ row ":abcdefghijklmnopqrstuvwxyz-123456" 0 (T.Refusal 5 0)
    ∷ row "abcdefghijklmnopqrstuvwxyz-123456." 0 (T.Refusal 3 0)
    ∷ row "5a" 0 (T.Refusal 6 0)
    ∷ row "1." 0 (T.Refusal 6 0)
    ∷ row "1..2" 0 (T.Refusal 6 0)
    ∷ row "5-3" 0 (T.Refusal 6 0)
    ∷ row "1e3" 0 (T.Refusal 6 0)
    ∷ row "1234567890" 0 (T.Refusal 6 0)
    ∷ row "0.1234" 0 (T.Refusal 6 0)
    ∷ row "OR" 0 (T.Refusal 11 0)
    ∷ row "#T" 0 (T.Refusal 11 0)
    ∷ row "( either" 1 (T.Refusal 11 2)
    ∷ row "*" 0 (T.Refusal 11 0)
    ∷ row ":metric" 0 (T.Refusal 11 0)
    ∷ row "?DURATION" 0 (T.Refusal 11 0)
    ∷ []

domain_refused_lem : Each token_at domain_refused_rows
unfolding open_tokens domain_refused_rows
domain_refused_lem = refl

-- plan lines: names, numbers, colons, brackets of both kinds, and refusals
plan_tokens_rows : List Row
plan_tokens_rows =
    row "5.001: (dose a) [5]" 0 (T.Number (pos 5001) 0 5)
    ∷ row "5.001: (dose a) [5]" 5 (T.Mark 58 5 6)
    ∷ row "5.001: (dose a) [5]" 6 (T.Open 7 8)
    ∷ row "5.001: (dose a) [5]" 8 (T.Word W.Name 8 12)
    ∷ row "5.001: (dose a) [5]" 14 (T.Close 14 15)
    ∷ row "5.001: (dose a) [5]" 15 (T.Mark 91 16 17)
    ∷ row "5.001: (dose a) [5]" 18 (T.Mark 93 18 19)
    ∷ row "5.001: (dose a) [5]" 19 (T.End 19)
    ∷ row "a:b" 0 (T.Word W.Name 0 1)
    ∷ row "or" 0 (T.Word W.Name 0 2)
    ∷ row "and" 0 (T.Word W.Name 0 3)
    ∷ row "; nothing" 0 (T.End 9)
    ∷ row "-5" 0 (T.Refusal 6 0)
    ∷ row "5-3" 0 (T.Refusal 6 0)
    ∷ row "?p" 0 (T.Refusal 3 0)
    ∷ row "?abcdefghijklmnopqrstuvwxyz-123456" 0 (T.Refusal 5 0)
    ∷ row "<=" 0 (T.Refusal 3 0)
    ∷ row "#t" 0 (T.Refusal 3 0)
    ∷ row "-a" 0 (T.Refusal 3 0)
    ∷ row "abcdefghijklmnopqrstuvwxyz-123456" 0 (T.Refusal 5 0)
    ∷ row "\u{80}" 0 (T.Refusal 2 0)
    ∷ []

plan_tokens : Each plan_token_at plan_tokens_rows
unfolding open_tokens plan_tokens_rows
plan_tokens = refl

-- plan lines of 256 and 257 bytes: only what ends before column 257 is judged
plan_edge_rows : List Row
plan_edge_rows =
    row "                                                                                                                                                                                                                                                            dose" 0 (T.Word W.Name 252 256)
    ∷ row "                                                                                                                                                                                                                                                            doses" 0 (T.Refusal 14 256)
    ∷ row "                                                                                                                                                                                                                                                            dose " 0 (T.Word W.Name 252 256)
    ∷ row "                                                                                                                                                                                                                                                            dose " 256 (T.Refusal 14 256)
    ∷ row "                                                                                                                                                                                                                                                               ?)" 0 (T.Refusal 3 255)
    ∷ row "                                                                                                                                                                                                                                                                \u{1}" 0 (T.Refusal 14 256)
    ∷ row "                                                                                                                                                                                                                                                               \u{1} " 0 (T.Refusal 2 255)
    ∷ []

plan_edge : Each plan_token_at plan_edge_rows
unfolding open_tokens plan_edge_rows
plan_edge = refl

-- a text of 32,768 bytes ends there; of a longer one, what begins below is read whole, and the rest is 1
long_texts : (token_at (replicate 32768 (code " ")) 0 ≡ T.End 32768) × (token_at (replicate 32769 (code " ")) 0 ≡ T.Refusal 1 32768)
    × (token_at (replicate 32767 (code " ") ++ bytes "ab") 0 ≡ T.Word W.Name 32767 32769)
    × (token_at (replicate 32768 (code " ") ++ bytes "$") 0 ≡ T.Refusal 1 32768)
unfolding open_tokens
long_texts = (refl, refl, refl, refl)

-- `either` after a bracket, and `?duration` in its rule
spots : (spot_at (bytes "( Either a b)") 1 (bytes "either") ≡ Some (2, 8)) × (spot_at (bytes "(or a)") 1 (bytes "either") ≡ None)
    × (spot_at (bytes "?Duration 5") 0 (bytes "?duration") ≡ Some (0, 9)) × (spot_at (bytes "either") 6 (bytes "either") ≡ None)
unfolding open_tokens
spots = (refl, refl, refl, refl)
