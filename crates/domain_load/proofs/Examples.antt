-- The bench as numbers: its actions' rows and where they begin, its goal's, its first indexes. (`domain_meaning` computes its texts to these trees.)
use mathlib.Core.Path.{◌≡◌, refl}
use mathlib.Core.List.{List, [], ◌∷◌}
use Prim.Native.Nat.{ℕ}
use Rattle.domain_meaning.proofs.Bench.{bench, two_doses, open_bench}
use Rattle.domain_meaning.specs.Indexes.{bases_from, bases_of, padded}
use Rattle.domain_literals.specs.Literal.{sign_base, size_of, bytes_of, number_cells}
use Rattle.domain_prepared_meaning.specs.Forms.{folded, form_of}
use Rattle.domain_prepared_meaning.specs.Preparing.{parts_at, singles, all_singles, all_effects}
use Rattle.domain_prepared_meaning.specs.Rows.{share_bytes, expr_bytes, test_bytes, effect_bytes, tests_bytes, effects_bytes, lasts_bytes}
use Rattle.domain_prepared_meaning.specs.Rows.{action_bytes, actions_bytes, places_from, all_places, lists_at}
use Rattle.domain_load.specs.Load.{predicate_firsts, function_firsts}

-- what opens the bench and its rows
unfoldable open_rows : Unit {0}
unfolding open_bench bases_from padded sign_base size_of bytes_of number_cells folded form_of parts_at singles all_singles all_effects share_bytes expr_bytes
    test_bytes effect_bytes tests_bytes effects_bytes lasts_bytes action_bytes actions_bytes places_from all_places
open_rows = tt

-- with two objects
abbrev ps : List ℕ
ps = predicate_firsts 2 bench.predicates

abbrev fs : List ℕ
fs = function_firsts 2 bench.functions

-- dose, off, note, zero: of each the duration rule, the conditions at start, over all and at end, the effects at start and at end
bench_rows : actions_bytes 2 ps fs bench.actions
    ≡ 1 ∷ 6 ∷ 0 ∷ 0 ∷ 0 ∷ 5 ∷ 0 ∷ 0 ∷ 0 ∷ 0 ∷ 5 ∷ 2 ∷ 0 ∷ 0 ∷ 0 ∷ 0 ∷ 9 ∷ 0 ∷ 0 ∷ 0 ∷ 0 ∷ 5 ∷ 0 ∷ 0 ∷ 0 ∷ 16 ∷ 2 ∷ 0 ∷ 0 ∷ 33 ∷ 1 ∷ 0
    ∷ 0 ∷ 5 ∷ 2 ∷ 0 ∷ 0 ∷ 0 ∷ 0 ∷ 0 ∷ 9 ∷ 2 ∷ 0 ∷ 0 ∷ 0 ∷ 0
    ∷ 0 ∷ 0 ∷ 0 ∷ 0 ∷ 16 ∷ 2 ∷ 0 ∷ 0 ∷ 33 ∷ 1 ∷ 0 ∷ 0
    ∷ 0 ∷ 0 ∷ 0 ∷ 0 ∷ 13 ∷ 2 ∷ 0 ∷ 0 ∷ 32 ∷ 0 ∷ 0 ∷ []
unfolding open_rows
bench_rows = refl

-- 385, 390, 395, 400, 401, 406; 417, 418, 423, 424, 425, 430; 431 to 435, 442; 443 to 447, 453
bench_places : all_places 2 ps fs lists_at bench.actions
    ≡ 129 ∷ 1 ∷ 134 ∷ 1 ∷ 139 ∷ 1 ∷ 144 ∷ 1 ∷ 145 ∷ 1 ∷ 150 ∷ 1
    ∷ 161 ∷ 1 ∷ 162 ∷ 1 ∷ 167 ∷ 1 ∷ 168 ∷ 1 ∷ 169 ∷ 1 ∷ 174 ∷ 1
    ∷ 175 ∷ 1 ∷ 176 ∷ 1 ∷ 177 ∷ 1 ∷ 178 ∷ 1 ∷ 179 ∷ 1 ∷ 186 ∷ 1
    ∷ 187 ∷ 1 ∷ 188 ∷ 1 ∷ 189 ∷ 1 ∷ 190 ∷ 1 ∷ 191 ∷ 1 ∷ 197 ∷ 1 ∷ []
unfolding open_rows
bench_places = refl

-- "Goal: doses of a at least 2"
bench_goal : tests_bytes 2 ps fs (singles two_doses.goal) ≡ 16 ∷ 5 ∷ 2 ∷ 0 ∷ 33 ∷ 2 ∷ 0 ∷ []
unfolding open_rows
bench_goal = refl

predicate_firsts_lem : bases_of 2 bench.predicates ≡ 0 ∷ 2 ∷ []
unfolding open_bench bases_from
predicate_firsts_lem = refl

function_firsts_lem : bases_of 2 bench.functions ≡ 0 ∷ 2 ∷ []
unfolding open_bench bases_from
function_firsts_lem = refl
