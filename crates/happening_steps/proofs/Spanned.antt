-- Step 5 for a line under way. Assumes nothing.
use mathlib.Core.Path.{◌≡◌, ◌∙◌}
use mathlib.Core.List.{List}
use Prim.Native.Nat.{ℕ, ◌%◌}
use Rattle.domain_prepared_meaning.specs.Decode.{tests_at, place_in}
use Rattle.happening_meaning.specs.State.{State}
use Rattle.happening_meaning.specs.Truths.{hold_all}
use Rattle.happening_meaning.specs.Happening.{judged, spans}
use Rattle.happening_meaning.specs.declared.Truth.{Truth}
use Rattle.happening_meaning.specs.declared.Outcome.{Outcome}
use Rattle.happening_meaning.specs.declared.Outcome.TheVariants.{Invariant}
use Rattle.happening_forms.specs.Summed.{summed, four_at}
use Rattle.happening_tests.specs.Reading.{mask_of}
use Rattle.happening_placing.specs.Given.{line_at}
use Rattle.happening_placing.proofs.Placing.{during_is}
use Rattle.happening_steps.specs.Watching.{watching}

module _ (rows os : List ℕ) (k line action d : ℕ) {from : ℕ} (ef : from ≡ place_in rows (action % 32) 2) where
  pub spans_by : (s : State) {t : Truth} {o : Outcome} → t ≡ hold_all summed s (four_at os k) (tests_at rows from)
      → o ≡ judged (Invariant line) line t → o ≡ spans summed s (line_at rows os k line action d)
  unfolding spans
  spans_by s et eo = eo ∙ rw (et, ef, ← during_is rows os k line action d)

  pub watching_by : {m : ℕ} → m ≡ mask_of summed (four_at os k) (tests_at rows from) → m ≡ watching summed (line_at rows os k line action d)
  unfolding watching
  watching_by e = e ∙ rw (ef, ← during_is rows os k line action d)
