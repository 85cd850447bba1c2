-- The accesses of a single condition that was taken apart, and the place after it.
use Rattle.std.specs.Prelude.{ℕ, List, [], ◌∷◌, ◌++◌}
use Rattle.domain_prepared_meaning.specs.Decode.{expression_at}
use Rattle.happening_forms.specs.Summed.{summed}
use Rattle.happening_tests.specs.declared.taken.Row.{Row}
use Rattle.happening_tests.specs.declared.taken.Row.TheVariants.{Fact, Same, Compare}
use Rattle.happening_meetings.specs.Accesses.{Access, access, fact_cell, expr_accesses}

unfoldable pub row_accesses : List ℕ → List ℕ → Row → List Access
row_accesses rows os (Fact w i n) = access 0 (fact_cell i) ∷ []
row_accesses rows os (Same h n) = []
row_accesses rows os (Compare w op e) =
    expr_accesses summed os (expression_at rows e).tree ++ expr_accesses summed os (expression_at rows (expression_at rows e).next).tree

unfoldable pub row_next : List ℕ → Row → ℕ
row_next rows (Fact w i n) = n
row_next rows (Same h n) = n
row_next rows (Compare w op e) = (expression_at rows (expression_at rows e).next).next
