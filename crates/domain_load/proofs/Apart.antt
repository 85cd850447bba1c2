-- The parts of the tables are the rows of each table. Assumes nothing.
use mathlib.Core.Path.{◌≡◌, ap, ◌∙◌}
use mathlib.Core.List.{List, ◌++◌}
use Prim.Native.Nat.{ℕ, ◌+◌, ◌-◌}
use native.Mathlib.Omega.{arith}
use lib.ListN.{length, take, drop}
use lib.Seq.{take_at, drop-append-add}
use Rattle.text_tokens.specs.Runs.{part}
use Rattle.domain_meaning.specs.Tables.{Table}
use Rattle.domain_meaning.specs.Domain.{Domain}
use Rattle.domain_rows.specs.Held.{rows_of}
use Rattle.domain_rows.proofs.Rows.{length_rows}
use Rattle.domain_load.specs.Load.{tables_of}
use Rattle.domain_rows.specs.Layout.{objects_at, predicates_at, functions_at, variables_at}

first_part : (a b : List ℕ) (e : ℕ) → length a ≡ e → part (a ++ b) 0 e ≡ a
first_part a b e h = let k : e - 0 ≡ e = omega arith in ap (λ (j : ℕ). take j (a ++ b)) k ∙ take_at a b e h

-- a part after the first numbers
part_past : (a b : List ℕ) (n p e : ℕ) → length a ≡ n → part (a ++ b) (n + p) (n + e) ≡ part b p e
part_past a b n p e h =
    let k : n + e - (n + p) ≡ e - p = omega arith in
    let j : n + p ≡ length a + p = omega (arith, h) in
    ap (λ (i : ℕ). take i (drop (n + p) (a ++ b))) k ∙ ap (λ (i : ℕ). take (e - p) (drop i (a ++ b))) j
    ∙ ap (λ (l : List ℕ). take (e - p) l) (drop-append-add a b p)

module _ (d : Domain) (os : Table) where
  types_long : length (rows_of 17 d.types) ≡ objects_at
  types_long = omega (arith, length_rows 17 d.types)

  objects_long : length (rows_of 64 os) ≡ 2432
  objects_long = omega (arith, length_rows 64 os)

  predicates_long : length (rows_of 32 d.predicates) ≡ 1216
  predicates_long = omega (arith, length_rows 32 d.predicates)

  functions_long : length (rows_of 16 d.functions) ≡ 608
  functions_long = omega (arith, length_rows 16 d.functions)

  pub types_part : part (tables_of d os) 0 objects_at ≡ rows_of 17 d.types
  unfolding tables_of
  types_part = first_part (rows_of 17 d.types) _ objects_at types_long

  pub objects_part : part (tables_of d os) objects_at predicates_at ≡ rows_of 64 os
  unfolding tables_of
  objects_part = part_past (rows_of 17 d.types) _ objects_at 0 2432 types_long ∙ first_part (rows_of 64 os) _ 2432 objects_long

  pub predicates_part : part (tables_of d os) predicates_at functions_at ≡ rows_of 32 d.predicates
  unfolding tables_of
  predicates_part =
      part_past (rows_of 17 d.types) _ objects_at 2432 3648 types_long
      ∙ part_past (rows_of 64 os) _ 2432 0 1216 objects_long
      ∙ first_part (rows_of 32 d.predicates) _ 1216 predicates_long

  pub functions_part : part (tables_of d os) functions_at variables_at ≡ rows_of 16 d.functions
  unfolding tables_of
  functions_part =
      part_past (rows_of 17 d.types) _ objects_at 3648 4256 types_long
      ∙ part_past (rows_of 64 os) _ 2432 1216 1824 objects_long
      ∙ part_past (rows_of 32 d.predicates) _ 1216 0 608 predicates_long
      ∙ first_part (rows_of 16 d.functions) _ 608 functions_long
