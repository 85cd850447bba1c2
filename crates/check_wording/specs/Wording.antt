-- The line written: "word, time with three decimals, line, second line (0 but for `conflict`), single spaces, LF"; "Refusals read `refused plan 16 2 1`, or
-- `refused domain 8 133 0`". RULES 12.
use Rattle.std.specs.Prelude.{ℕ, zero, suc, ◌+◌, ◌/◌, ◌%◌, List, [], ◌∷◌, ◌++◌, cond, ltb}
use Prim.Native.Char.{code}
use Rattle.text_words.specs.Bytes.{bytes}
use Rattle.happening_meaning.specs.declared.Outcome.{Outcome}
use Rattle.happening_meaning.specs.declared.Outcome.TheVariants.{Done, Duration, Condition, Undefined, Range, Itself, Conflict, Invariant, Goal}

abbrev pub digit : ℕ → ℕ
digit n = code "0" + n

-- in decimal digits, at most so many more than one
unfoldable pub decimal_to : ℕ → ℕ → List ℕ
decimal_to zero n = digit (n % 10) ∷ []
decimal_to (suc k) n = cond (ltb n 10) (digit n ∷ []) (decimal_to k (n / 10) ++ digit (n % 10) ∷ [])

-- every number of 64 bits has at most 20 digits
abbrev pub decimal : ℕ → List ℕ
decimal n = decimal_to 19 n

abbrev pub three_digits : ℕ → List ℕ
three_digits n = digit (n / 100 % 10) ∷ digit (n / 10 % 10) ∷ digit (n % 10) ∷ []

-- "time with three decimals"
unfoldable pub time_of : ℕ → List ℕ
time_of t = decimal (t / 1000) ++ code "." ∷ three_digits t

unfoldable pub word_of : Outcome → List ℕ
word_of Done = bytes "valid"
word_of (Duration l) = bytes "duration"
word_of (Condition l) = bytes "condition"
word_of (Undefined l) = bytes "undefined"
word_of (Range l) = bytes "range"
word_of (Itself l) = bytes "itself"
word_of (Conflict l m) = bytes "conflict"
word_of (Invariant l) = bytes "invariant"
word_of Goal = bytes "goal"

-- "`valid` and failures at the goal have .. lines 0 0"
unfoldable pub line_of : Outcome → ℕ
line_of Done = 0
line_of (Duration l) = l
line_of (Condition l) = l
line_of (Undefined l) = l
line_of (Range l) = l
line_of (Itself l) = l
line_of (Conflict l m) = l
line_of (Invariant l) = l
line_of Goal = 0

unfoldable pub second_of : Outcome → ℕ
second_of Done = 0
second_of (Duration l) = 0
second_of (Condition l) = 0
second_of (Undefined l) = 0
second_of (Range l) = 0
second_of (Itself l) = 0
second_of (Conflict l m) = m
second_of (Invariant l) = 0
second_of Goal = 0

-- a space and a number
abbrev pub behind_space : List ℕ → List ℕ
behind_space w = code " " ∷ w

abbrev pub ended : List ℕ → List ℕ
ended w = w ++ 10 ∷ []

unfoldable pub verdict_line : Outcome → ℕ → List ℕ
verdict_line o t = ended (word_of o ++ (behind_space (time_of t) ++ (behind_space (decimal (line_of o)) ++ behind_space (decimal (second_of o)))))

-- w names the text; its number, and the place: of a domain or problem a byte and 0, of a plan a line and a column
unfoldable pub refusal_line : List ℕ → ℕ → ℕ → ℕ → List ℕ
refusal_line w k p q =
    ended (bytes "refused " ++ (w ++ (behind_space (decimal k) ++ (behind_space (decimal p) ++ behind_space (decimal q)))))
