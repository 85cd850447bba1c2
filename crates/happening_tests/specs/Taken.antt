-- A single condition of the rows, taken apart: what its facts, objects and places are for a point.
use Rattle.std.specs.Prelude.{ℕ, ◌+◌, List, Option, Some, None, Bool, cond, not, ltb, eqb, length}
use Rattle.domain_meaning.specs.Terms.{Expr}
use Rattle.domain_meaning.specs.Conditions.{Cond, all, atom, same, compare}
use Rattle.domain_meaning.specs.Indexes.{object_of}
use Rattle.domain_rows.specs.Held.{byte_at}
use Rattle.domain_stored_meaning.specs.Cells.{comparison_cell}
use Rattle.domain_stored_meaning.specs.Decode.{Decoded}
use Rattle.domain_prepared_meaning.specs.Decode.{begins_test, test_at, expression_at}
use Rattle.happening_meaning.specs.State.{fact_of}
use Rattle.happening_forms.specs.Summed.{summed}
use Rattle.happening_tests.specs.declared.taken.Row.{Row}
use Rattle.happening_tests.specs.declared.taken.Row.TheVariants.{Fact, Same, Compare}

-- the second side of a comparison whose first is at a place
abbrev pub second_side : List ℕ → ℕ → Decoded Expr
second_side rows e = expression_at rows (expression_at rows e).next

-- what is so, as it is wanted
abbrev pub wants : Bool → Bool → Bool
wants w b = cond w b (not b)

-- os being the objects of the point, e the place after the first byte; no `and` stands in rows
abbrev pub of_tree : List ℕ → ℕ → ℕ → Cond → Option Row
of_tree os e next (all cs) = None
of_tree os e next (atom yes' r) = Some (Fact yes' (fact_of summed os r) next)
of_tree os e next (same yes' a b) = Some (Same (wants yes' (eqb (object_of os a) (object_of os b))) next)
of_tree os e next (compare yes' op a b) = Some (Compare yes' (comparison_cell op) e)

abbrev pub row_of : List ℕ → ℕ → Decoded Cond → Option Row
row_of os e d = of_tree os e d.next d.tree

-- none where the list ends
unfoldable pub row_at : List ℕ → List ℕ → ℕ → Option Row
row_at rows os at =
    cond (ltb at (length rows)) (cond (begins_test (byte_at rows at)) (row_of os (at + 1) (test_at rows at (byte_at rows at))) None) None
