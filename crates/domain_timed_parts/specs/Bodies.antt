-- What stands in a part: a condition or effects, as its cells.
use Rattle.std.specs.Prelude.{ℕ, List, [], ◌∷◌, ◌++◌, Bool, true, false}
use Rattle.domain_meaning.specs.Read.{◌>>=◌, Reader, give}
use Rattle.domain_meaning.specs.Terms.{Scope, Counted, counts}
use Rattle.domain_meaning.specs.Conditions.{condition}
use Rattle.domain_meaning.specs.Effects.{effect}
use Rattle.domain_meaning.specs.Actions.{Timed}
use Rattle.domain_stored_meaning.specs.Cells.{cond_cells, list_cells, when_cell}

-- a tree was read: g of it
abbrev pub mapped : {A B : Type 0} → (A → B) → Reader (Counted A) → Reader (Counted B)
mapped g r = do
  x ← r
  give (counts (g x.tree) x.left)

-- what stands in a part of the condition (`over`: it may span the action), or of the effect
unfoldable pub body_of : Bool → List ℕ → Scope → ℕ → ℕ → Reader (Counted (List ℕ))
body_of true s c d n = mapped cond_cells (condition d s c n)
body_of false s c d n = mapped list_cells (effect d s c n)

abbrev pub as_is : List ℕ → List ℕ
as_is cells = cells

-- parts, one after the other
unfoldable pub timed_cells : List (Timed (List ℕ)) → List ℕ
timed_cells [] = []
timed_cells (x ∷ xs) = when_cell x.when ∷ (x.what ++ timed_cells xs)
