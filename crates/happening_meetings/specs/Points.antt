-- The accesses of a point, by the places in the rows at which what it needs stands.
use Rattle.std.specs.Prelude.{ℕ, List, map}
use Rattle.domain_prepared_meaning.specs.Decode.{tests_at, effects_at}
use Rattle.happening_forms.specs.Summed.{summed}
use Rattle.happening_placing.specs.Given.{rule_in, points_in}
use Rattle.happening_placing.specs.declared.Placed.{Placed}
use Rattle.happening_meetings.specs.Accesses.{Access, all_accesses, point_accesses}

unfoldable pub placed_accesses : List ℕ → List ℕ → Placed → List Access
placed_accesses rows os p = all_accesses summed os (tests_at rows p.tests) (rule_in rows p) (effects_at rows p.effects)

-- n points, from number j on
abbrev pub accesses_in : List ℕ → List ℕ → List ℕ → ℕ → ℕ → List (List Access)
accesses_in rows points objects n j = map (point_accesses summed) (points_in rows points objects n j)
