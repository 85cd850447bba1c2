-- The tables of a scope are its parts one after the other. Assumes nothing.
use mathlib.Core.Path.{◌≡◌, sym, ap, ◌∙◌}
use mathlib.Core.List.{List, [], ◌++◌}
use Prim.Native.Nat.{ℕ, ◌+◌, ◌-◌, ◌≤◌}
use native.Mathlib.Omega.{arith}
use lib.ListN.{length, take, drop}
use lib.Seq.{take-add, drop-drop, take_all}
use Rattle.text_tokens.specs.Runs.{part}
use Rattle.domain_meaning.specs.Tables.{Table}
use Rattle.domain_meaning.specs.Domain.{Domain}
use Rattle.domain_meaning.specs.Problem.{scope_of}
use Rattle.domain_rows.specs.Held.{rows_of}
use Rattle.domain_terms.specs.Scoped.{Scoped}
use Rattle.domain_terms.specs.declared.scope.Counts.{Counts}
use Rattle.domain_load.specs.Load.{tables_of}
use Rattle.domain_rows.specs.Layout.{objects_at, predicates_at, functions_at, variables_at, tables_length}

-- two parts, one after the other
joined : (l : List ℕ) (a b c : ℕ) → a ≤ b → b ≤ c → part l a c ≡ part l a b ++ part l b c
joined l a b c ab bc =
    let m : c - a ≡ (b - a) + (c - b) = omega arith in
    let n : a + (b - a) ≡ b = omega arith in
    ap (λ (k : ℕ). take k (drop a l)) m ∙ take-add (b - a) (c - b) (drop a l)
    ∙ ap (λ (r : List ℕ). take (b - a) (drop a l) ++ take (c - b) r) (drop-drop (b - a) a l ∙ ap (λ (k : ℕ). drop k l) n)

pub tables_are : (tables : List ℕ) (n : Counts) (d : Domain) (os : Table) → Scoped tables n (scope_of d os) → length tables ≡ tables_length
    → tables ≡ tables_of d os
unfolding tables_of
tables_are tables n d os h long =
    let whole : part tables 0 tables_length ≡ tables = take_all tables_length tables (omega (arith, long)) in
    let tail₄ : part tables functions_at tables_length ≡ rows_of 16 d.functions ++ rows_of 4 [] =
    joined tables functions_at variables_at tables_length (omega arith) (omega arith)
    ∙ ap (λ (r : List ℕ). r ++ part tables variables_at tables_length) h.functions.are
    ∙ ap (λ (r : List ℕ). rows_of 16 d.functions ++ r) h.variables.are in
    let tail₃ : part tables predicates_at tables_length ≡ rows_of 32 d.predicates ++ (rows_of 16 d.functions ++ rows_of 4 []) =
    joined tables predicates_at functions_at tables_length (omega arith) (omega arith)
    ∙ ap (λ (r : List ℕ). r ++ part tables functions_at tables_length) h.predicates.are
    ∙ ap (λ (r : List ℕ). rows_of 32 d.predicates ++ r) tail₄ in
    let tail₂ : part tables objects_at tables_length ≡ rows_of 64 os ++ (rows_of 32 d.predicates ++ (rows_of 16 d.functions ++ rows_of 4 [])) =
    joined tables objects_at predicates_at tables_length (omega arith) (omega arith)
    ∙ ap (λ (r : List ℕ). r ++ part tables predicates_at tables_length) h.objects.are
    ∙ ap (λ (r : List ℕ). rows_of 64 os ++ r) tail₃ in
    sym whole ∙ joined tables 0 objects_at tables_length (omega arith) (omega arith)
    ∙ ap (λ (r : List ℕ). r ++ part tables objects_at tables_length) h.types.are
    ∙ ap (λ (r : List ℕ). rows_of 17 d.types ++ r) tail₂
