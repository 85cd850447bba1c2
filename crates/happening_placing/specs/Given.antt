-- The points given to a call: four numbers each (line, action, time in the action: 1 for its start, else its end; duration) and four objects. Any numbers
-- give some points. And a line under way, by its numbers.
use Rattle.std.specs.Prelude.{ℕ, zero, suc, ◌+◌, ◌*◌, ◌%◌, List, [], ◌∷◌, Bool, cond, eqb, get_or}
use Rattle.domain_meaning.specs.Tables.{Entry, entry}
use Rattle.domain_meaning.specs.Actions.{start, end, Lasting, moment}
use Rattle.domain_prepared_meaning.specs.Decode.{lasts_at, place_in, action_at}
use Rattle.happening_meaning.specs.Happening.{Step, step_of, Point}
use Rattle.happening_forms.specs.Summed.{four_at}
use Rattle.happening_placing.specs.declared.Placed.{Placed}

-- no name is needed of an action that happens
abbrev pub nameless : Entry
nameless = entry [] []

-- "for a start, the duration rule"
abbrev pub rule_in : List ℕ → Placed → Lasting
rule_in rows p = cond p.begins (lasts_at rows p.rule) moment

module _ (rows points : List ℕ) where
  -- one of 32 actions
  abbrev pub action_in : ℕ → ℕ
  action_in j = get_or points (4 * j + 1) 0 % 32

  abbrev pub starts : ℕ → Bool
  starts j = eqb (get_or points (4 * j + 2) 0) 1

  -- where what point j needs stands: its action's duration rule, single conditions and effects for its time
  unfoldable pub placed_in : ℕ → Placed
  placed_in j =
      record {
        line = get_or points (4 * j) 0;
        begins = starts j;
        duration = get_or points (4 * j + 3) 0;
        rule = place_in rows (action_in j) 0;
        tests = place_in rows (action_in j) (cond (starts j) 1 3);
        effects = place_in rows (action_in j) (cond (starts j) 4 5);
      }

  module _ (objects : List ℕ) where
    unfoldable pub step_in : ℕ → Step
    step_in j = step_of (get_or points (4 * j) 0) (action_at rows (action_in j) nameless) (four_at objects j) (get_or points (4 * j + 3) 0)

    unfoldable pub point_in : ℕ → Point
    point_in j = record { step = step_in j; when = cond (starts j) start end }

    -- n points, from number j on
    unfoldable pub points_in : ℕ → ℕ → List Point
    points_in zero j = []
    points_in (suc n) j = point_in j ∷ points_in n (j + 1)

-- the step of a line, by its action's number, its place among the objects, and how long it lasts
abbrev pub line_at : List ℕ → List ℕ → ℕ → ℕ → ℕ → ℕ → Step
line_at rows objects k line action d = step_of line (action_at rows (action % 32) nameless) (four_at objects k) d
