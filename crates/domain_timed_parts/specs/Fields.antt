-- A field of an action that may be missing: what its parts are, as cells.
use Rattle.std.specs.Prelude.{ℕ, ◌+◌, ◌≤◌, ◌<◌, List, [], ◌∷◌, ◌++◌, Bool, true, false, cond, None, Option, Some, Err}
use Rattle.domain_due.specs.Answers.{Parsed}
use Rattle.domain_due.specs.Answers.{Done}
use Rattle.domain_meaning.specs.Read.{◌>>=◌, Read, Reader, got, refused, give}
use Rattle.domain_meaning.specs.Terms.{Scope, Counted, counts}
use Rattle.domain_meaning.specs.Actions.{Timed, parts, at_start, field_of, tree_of}
use Rattle.domain_timed_parts.specs.Bodies.{body_of, timed_cells}

-- whether a field's word follows: where it ends
abbrev pub field_found : Read Bool → Option ℕ
field_found (got true n) = Some n
field_found (got false n) = None
field_found (refused k p) = None

-- the word ends within the text's n bytes and past `at`
unfoldable pub Farther : ℕ → ℕ → Option ℕ → Type 0
Farther n at (Some e) = (at < e) × (e ≤ n)
Farther n at None = Unit {0}

-- what stands after the word: parts in a durative action, one condition or effect at its one instant in a simple one
unfoldable pub parts_of : Bool → Bool → List ℕ → Scope → ℕ → Reader (Counted (List (Timed (List ℕ))))
parts_of true over s c n = parts s over (body_of over s c) 14 n
parts_of false over s c n = do
  x ← body_of over s c 14 n
  give (counts (at_start x.tree ∷ []) x.left)

unfoldable pub field_parts : Bool → Bool → List ℕ → Scope → List ℕ → ℕ → Reader (List (Timed (List ℕ)))
field_parts durative over s c w n = do
  b ← field_of s w
  cond b (tree_of (parts_of durative over s c n)) (give [])

-- parts, and the cell that ends them
abbrev pub ended_cells : List (Timed (List ℕ)) → List ℕ
ended_cells xs = timed_cells xs ++ 0 ∷ []

-- the place after is within the text's n bytes and not before `at`; at most two cells more were written than bytes were read
unfoldable pub Onwards : ℕ → ℕ → ℕ → Parsed → Type 0
Onwards n used at (Done a v) = (at ≤ a) × (a ≤ n) × (used ≤ v) × (v + at ≤ used + a + 2)
Onwards n used at (Err why) = Unit {0}
