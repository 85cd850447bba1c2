-- The goal is the conditions of its list, and no object stands for a parameter. Assumes nothing.
use mathlib.Core.Path.{◌≡◌, refl, sym, ap, ◌∙◌}
use mathlib.Core.List.{List}
use Prim.Native.Nat.{ℕ}
use lib.ListN.{replicate}
use Rattle.domain_prepared_meaning.specs.Decode.{tests_at, goal_at}
use Rattle.happening_meaning.specs.State.{State}
use Rattle.happening_meaning.specs.Truths.{truth_of, hold_all}
use Rattle.happening_meaning.specs.Happening.{no_objects}
use Rattle.happening_meaning.specs.declared.Truth.{Truth}
use Rattle.happening_forms.specs.Summed.{summed, four_at}
use Rattle.happening_tests.proofs.Framing.{all_holds}

nobody : four_at (replicate 256 0) 0 ≡ no_objects
unfolding four_at
nobody = refl

pub goal_holds : (s : State) (goal : List ℕ) {t : Truth} → t ≡ hold_all summed s (four_at (replicate 256 0) 0) (tests_at goal 0)
    → t ≡ truth_of summed s no_objects (goal_at goal)
unfolding goal_at
goal_holds s goal e =
    e ∙ ap (λ (os : List ℕ). hold_all summed s os (tests_at goal 0)) nobody ∙ sym (all_holds summed no_objects s (tests_at goal 0))
