-- A table of declared names, as rows of bytes.
use Rattle.std.specs.Prelude.{ℕ, zero, suc, List, [], ◌∷◌, cond, length, get_or, take, drop, ltb}

-- a row: the name's length, five numbers kept with it, the name in 32 bytes ("names 32 bytes")
unfoldable pub name_of : List ℕ → List ℕ
name_of row = take (get_or row 0 0) (take 32 (drop 6 row))

-- the names of the first n rows, or of as many as there are
unfoldable pub names_of : ℕ → List ℕ → List (List ℕ)
names_of zero rows = []
names_of (suc n) rows = cond (ltb (length rows) 38) [] (name_of rows ∷ names_of n (drop 38 rows))
