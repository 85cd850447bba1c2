-- Where the tables of a scope lie in one slice, one after the other, in rows of 38 bytes: 17 types, 64 objects, 32 predicates, 16 functions, 4 variables.
use Rattle.std.specs.Prelude.{ℕ}

abbrev pub objects_at : ℕ
objects_at = 646

abbrev pub predicates_at : ℕ
predicates_at = 3078

abbrev pub functions_at : ℕ
functions_at = 4294

abbrev pub variables_at : ℕ
variables_at = 4902

abbrev pub tables_length : ℕ
tables_length = 5054
