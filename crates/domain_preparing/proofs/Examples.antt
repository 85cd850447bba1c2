-- The bench's first action and its goal as rows, with two objects; and references in which a constant is folded.
use mathlib.Core.Path.{◌≡◌, refl}
use mathlib.Core.List.{List, [], ◌∷◌}
use Prim.Native.Nat.{ℕ}
use Rattle.domain_meaning.proofs.Bench.{bench, two_doses, open_bench}
use Rattle.domain_meaning.specs.Terms.{object, variable}
use Rattle.domain_meaning.specs.Actions.{Action}
use Rattle.domain_literals.specs.Literal.{sign_base, size_of, bytes_of, number_cells}
use Rattle.domain_prepared_meaning.specs.Forms.{folded, form_of}
use Rattle.domain_prepared_meaning.specs.Preparing.{parts_at, singles, all_singles, all_effects}
use Rattle.domain_prepared_meaning.specs.Rows.{share_bytes, form_bytes, expr_bytes, test_bytes, effect_bytes, tests_bytes, effects_bytes, lasts_bytes}
use Rattle.domain_prepared_meaning.specs.Rows.{sizes, action_bytes, places_from, lists_at}

-- what opens lists of rows
unfoldable open_lists : Unit {0}
unfolding test_bytes effect_bytes tests_bytes effects_bytes lasts_bytes action_bytes places_from
open_lists = tt

-- and all that they hold
unfoldable open_rows : Unit {0}
unfolding open_bench sign_base size_of bytes_of number_cells folded form_of parts_at singles all_singles all_effects share_bytes expr_bytes open_lists
open_rows = tt

-- with two objects the predicates and the functions begin at 0 and 2
abbrev indexes : List ℕ
indexes = 0 ∷ 2 ∷ []

abbrev first : List Action → (Action → List ℕ) → List ℕ
first [] f = []
first (a ∷ as') f = f a

-- dose: the rule (lock ?p); at start (ready ?p); over all (on ?p); at end nothing; then not ready; then ready, and one dose more
dose_rows : first bench.actions (action_bytes 2 indexes indexes)
    ≡ 1 ∷ 6 ∷ 0 ∷ 0 ∷ 0
    ∷ 5 ∷ 0 ∷ 0 ∷ 0 ∷ 0
    ∷ 5 ∷ 2 ∷ 0 ∷ 0 ∷ 0
    ∷ 0
    ∷ 9 ∷ 0 ∷ 0 ∷ 0 ∷ 0
    ∷ 5 ∷ 0 ∷ 0 ∷ 0 ∷ 16 ∷ 2 ∷ 0 ∷ 0 ∷ 33 ∷ 1 ∷ 0 ∷ []
unfolding open_rows
dose_rows = refl

-- places 385, 390, 395, 400, 401, 406
dose_places : first bench.actions (λ a. places_from 2 indexes indexes lists_at (sizes 2 indexes indexes a))
    ≡ 129 ∷ 1 ∷ 134 ∷ 1 ∷ 139 ∷ 1 ∷ 144 ∷ 1 ∷ 145 ∷ 1 ∷ 150 ∷ 1 ∷ []
unfolding open_rows
dose_places = refl

-- "Goal: doses of a at least 2": a is folded into the base
goal_rows : tests_bytes 2 indexes indexes (singles two_doses.goal) ≡ 16 ∷ 5 ∷ 2 ∷ 0 ∷ 33 ∷ 2 ∷ 0 ∷ []
unfolding open_rows
goal_rows = refl

-- with 3 objects and first index 10: object 1 before a parameter counts 3, after one 1; a parameter before another argument has the stride 3
constant_first : form_bytes 3 [] [] 4 (10 ∷ []) (record { head = 0; args = object 1 ∷ variable 0 ∷ [] }) ≡ 5 ∷ 13 ∷ 0 ∷ 0 ∷ []
unfolding open_rows
constant_first = refl

constant_last : form_bytes 3 [] [] 4 (10 ∷ []) (record { head = 0; args = variable 1 ∷ object 1 ∷ [] }) ≡ 5 ∷ 11 ∷ 0 ∷ 5 ∷ []
unfolding open_rows
constant_last = refl
