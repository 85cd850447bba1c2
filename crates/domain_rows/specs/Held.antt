-- The bytes that hold a table of declared names. All of them are fixed by the table: after a name, and after the last one, stand zeros.
use Rattle.std.specs.Prelude.{◌≡◌, ℕ, zero, suc, ◌≤◌, List, [], ◌∷◌, ◌++◌, cond, length, get_or, ltb}
use Rattle.domain_meaning.specs.Tables.{Entry, entry, name_of, info_of, Table}
use Rattle.domain_meaning.specs.Indexes.{padded}

-- past the end a byte is 0
unfoldable pub byte_at : List ℕ → ℕ → ℕ
byte_at rows i = cond (ltb i (length rows)) (get_or rows i 0) 0

-- 38 bytes: the name's length, 5 for the numbers, 32 for the name
abbrev pub row_of : Entry → List ℕ
row_of e = length (name_of e) ∷ (padded 5 (info_of e) ++ padded 32 (name_of e))

-- m rows: the table's, then zeros
unfoldable pub rows_of : ℕ → Table → List ℕ
rows_of zero t = []
rows_of (suc m) [] = row_of (entry [] []) ++ rows_of m []
rows_of (suc m) (e ∷ t) = row_of e ++ rows_of m t

-- every name has at most 32 bytes
abbrev pub Short : Table → Type 0
Short [] = Unit {0}
Short (e ∷ t) = (length (name_of e) ≤ 32) × Short t

-- the bytes are m rows and hold the n names of the table t
pub record Holds (m : ℕ) (rows : List ℕ) (n : ℕ) (t : Table) : Type 0 where
  pub are : rows ≡ rows_of m t
  pub count : n ≡ length t
  pub fits : n ≤ m
  pub short : Short t

-- they hold some table
abbrev pub Stands : ℕ → List ℕ → ℕ → Type 0
Stands m rows n = (t : Table) × Holds m rows n t
