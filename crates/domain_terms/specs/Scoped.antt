-- The bytes that hold the tables of a scope.
use Rattle.std.specs.Prelude.{◌≡◌, ℕ, ◌≤◌, List, [], ◌∷◌, length}
use Rattle.text_tokens.specs.Runs.{part}
use Rattle.domain_meaning.specs.Tables.{Entry, info_of, Table}
use Rattle.domain_meaning.specs.Terms.{Scope}
use Rattle.domain_rows.specs.Held.{Holds}
use Rattle.domain_terms.specs.declared.scope.Counts.{Counts}
use Rattle.domain_rows.specs.Layout.{objects_at, predicates_at, functions_at, variables_at, tables_length}

-- an entry that keeps how many arguments it has, at most 4, and their types
pub record Signed (e : Entry) : Type 0 where
  pub wanted : List ℕ
  pub is : info_of e ≡ length wanted ∷ wanted
  pub few : length wanted ≤ 4

abbrev pub AllSigned : Table → Type 0
AllSigned [] = Unit {0}
AllSigned (e ∷ t) = Signed e × AllSigned t

pub record Scoped (tables : List ℕ) (n : Counts) (c : Scope) : Type 0 where
  pub types : Holds 17 (part tables 0 objects_at) n.types c.types
  pub objects : Holds 64 (part tables objects_at predicates_at) n.objects c.objects
  pub predicates : Holds 32 (part tables predicates_at functions_at) n.predicates c.predicates
  pub functions : Holds 16 (part tables functions_at variables_at) n.functions c.functions
  pub variables : Holds 4 (part tables variables_at tables_length) n.variables c.variables
  pub action : n.in_action ≡ c.in_action
  pub facts : AllSigned c.predicates
  pub numbers : AllSigned c.functions

abbrev pub Scopes : List ℕ → Counts → Type 0
Scopes tables n = (c : Scope) × Scoped tables n c

-- a table of predicates or functions, from `off` on
pub record Signatures (tables : List ℕ) (off n : ℕ) : Type 0 where
  pub rows : ℕ
  pub to : ℕ
  pub table : Table
  pub holds : Holds rows (part tables off to) n table
  pub signed : AllSigned table
  pub few : n ≤ 64
  pub near : off ≤ tables_length
