-- Whether a condition that was taken apart holds, and the place after it.
use Rattle.std.specs.Prelude.{ℕ, List, true}
use Rattle.domain_stored_meaning.specs.Decode.{comparison_of}
use Rattle.domain_prepared_meaning.specs.Decode.{expression_at}
use Rattle.happening_meaning.specs.State.{State, is_true}
use Rattle.happening_meaning.specs.Truths.{agrees, compared_of, on_value, value_of}
use Rattle.happening_meaning.specs.declared.Value.{Value}
use Rattle.happening_meaning.specs.declared.Truth.{Truth}
use Rattle.happening_meaning.specs.declared.Truth.TheVariants.{Holds}
use Rattle.happening_forms.specs.Summed.{summed}
use Rattle.happening_forms.specs.declared.Taken.{Taken}
use Rattle.happening_tests.specs.Taken.{second_side}
use Rattle.happening_tests.specs.declared.taken.Row.{Row}
use Rattle.happening_tests.specs.declared.taken.Row.TheVariants.{Fact, Same, Compare}

-- what a value that is no number makes of a condition
unfoldable pub blamed : Value → Truth
blamed v = on_value v (λ _. Holds)

abbrev pub judged : Truth → ℕ → Taken Truth
judged t n = record { what = t; next = n }

unfoldable pub row_judged : List ℕ → State → List ℕ → Row → Taken Truth
row_judged rows s os (Fact w i n) = judged (agrees w (is_true s.facts i)) n
row_judged rows s os (Same h n) = judged (agrees true h) n
row_judged rows s os (Compare w op e) =
    judged (compared_of w (comparison_of op) (value_of summed s.numbers os (expression_at rows e).tree)
    (value_of summed s.numbers os (second_side rows e).tree)) (second_side rows e).next
