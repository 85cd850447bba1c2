-- Which index the first fact or number of a name has, by the bytes of the tables alone.
use Rattle.std.specs.Prelude.{ℕ, zero, suc, ◌+◌, ◌*◌, ◌^◌, List, cond, ltb}
use Rattle.domain_rows.specs.Held.{byte_at}
use Rattle.domain_rows.specs.Layout.{tables_length}

-- where row i of the table from off on begins
unfoldable pub row_at : ℕ → ℕ → ℕ
row_at off i = cond (ltb off tables_length) (cond (ltb i 64) (off + 38 * i) tables_length) tables_length

abbrev pub arity_in : List ℕ → ℕ → ℕ → ℕ
arity_in tables off i = byte_at tables (row_at off i + 1)

-- "n^arguments"
unfoldable pub count_of : ℕ → ℕ → ℕ
count_of n k = cond (ltb 64 n) 0 (cond (ltb 3 k) 0 (n ^ k))

-- "the first index of each next one is n^arguments higher than the one before it"
unfoldable pub first_in : List ℕ → ℕ → ℕ → ℕ → ℕ
first_in tables off n zero = 0
first_in tables off n (suc i) = first_in tables off n i + count_of n (arity_in tables off i)
