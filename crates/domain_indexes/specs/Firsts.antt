-- The first index of one name of a table, the sum over those before it; and those of all predicates and functions in one list.
use Rattle.std.specs.Prelude.{ℕ, zero, suc, ◌+◌, ◌^◌, List, [], ◌∷◌, ◌++◌}
use Rattle.domain_meaning.specs.Tables.{Table}
use Rattle.domain_meaning.specs.Indexes.{arity, bases_of, padded}

-- the first index of number i of a table, with n objects
unfoldable pub first_of : ℕ → Table → ℕ → ℕ
first_of n t zero = 0
first_of n [] (suc i) = 0
first_of n (e ∷ t) (suc i) = n ^ arity e + first_of n t i

-- those of at most 32 predicates, then of at most 16 functions, then the number of objects
abbrev pub firsts_of : ℕ → Table → Table → List ℕ
firsts_of n ps fs = padded 32 (bases_of n ps) ++ (padded 16 (bases_of n fs) ++ n ∷ [])
