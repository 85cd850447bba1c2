-- The plan part of the table of RULES 7: which numbers a plan can be refused by, and at which places. Tests of numbers.
use Rattle.std.specs.Prelude.{ℕ, List, [], ◌∷◌, Bool, cond, ◌&&◌, eqb, leb}
use Rattle.text_words.specs.Bytes.{is_one_of}

-- ---- "in plans, line and column from 1, a line's end being its length plus 1"

-- "1,000,000 lines"
unfoldable pub listed_line : ℕ → Bool
listed_line l = leb 1 l && leb l 1000000

-- "256 bytes without LF"
unfoldable pub listed_column : ℕ → Bool
listed_column c = leb 1 c && leb c 257

-- ---- a refusal

-- the rows of the table that any place of a line can have
abbrev pub plan_rows : List ℕ
plan_rows = 2 ∷ 3 ∷ 4 ∷ 5 ∷ 6 ∷ 8 ∷ 9 ∷ 10 ∷ 16 ∷ 17 ∷ 18 ∷ []

-- "14 plan line too long: column 257"
unfoldable pub listed_row : ℕ → ℕ → Bool
listed_row k c = cond (eqb k 14) (eqb c 257) (is_one_of k plan_rows)

-- "15 byte after the millionth LF": the first of line 1,000,001
unfoldable pub listed_in_plan : ℕ → ℕ → ℕ → Bool
listed_in_plan k l c = cond (eqb k 15) (eqb l 1000001 && eqb c 1) (listed_line l && listed_column c && listed_row k c)
