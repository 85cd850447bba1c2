-- Arguments, references and expressions as cells of the code, and what a reader that writes cells answers.
use Rattle.std.specs.Prelude.{◌≡◌, ℕ, ◌+◌, ◌-◌, ◌≤◌, ◌<◌, List, map, cond, length, ltb, Err}
use Rattle.std.proofs.lemmas.List.Edits.{sets}
use Rattle.domain_meaning.specs.Read.{Read, got, refused}
use Rattle.domain_meaning.specs.Tables.{entry_at, type_of}
use Rattle.domain_meaning.specs.Terms.{Scope, Arg, object, variable, Given}
use Rattle.domain_due.specs.Answers.{Parsed, Done, Refused}

-- an argument is one cell: an object below 64, or 64 and a parameter's number
abbrev pub cell_of : Arg → ℕ
cell_of (object i) = i
cell_of (variable i) = 64 + i

-- an argument was read: the place after it, and its cell
abbrev pub cell_answer : Read Given → Parsed
cell_answer (got g n) = Done n (cell_of g.arg)
cell_answer (refused k p) = Refused k p

-- the type of the argument in a cell
unfoldable pub type_of_cell : Scope → ℕ → ℕ
type_of_cell c x = cond (ltb x 64) (type_of (entry_at c.objects x)) (type_of (entry_at c.variables (x - 64)))

abbrev pub arg_cells : List Arg → List ℕ
arg_cells as' = map cell_of as'

-- a tree was read, and its cells were stored from `used` on: the answer has the place after, and the first cell that is free
unfoldable pub Wrote : {A : Type 0} → (A → List ℕ) → List ℕ → ℕ → Parsed → List ℕ → Read A → Type 0
Wrote cells code used r code' (got a n) = (r ≡ Done n (used + length (cells a))) × (code' ≡ sets code used (cells a))
Wrote cells code used r code' (refused k p) = r ≡ Refused k p

-- a cell that was read is below 256
unfoldable pub Cellular : Parsed → Type 0
Cellular (Done a v) = v < 128
Cellular (Err why) = Unit {0}

-- no more cells were written than bytes were read
unfoldable pub Room : ℕ → ℕ → Parsed → Type 0
Room used from (Done a v) = (used ≤ v) × (v + from ≤ used + a)
Room used from (Err why) = Unit {0}
