-- What a point's rule, conditions and effects are, and the conditions of a line under way, by the places at which they stand in the rows; and points by
-- their numbers. Assumes nothing.
use mathlib.Core.Path.{◌≡◌, refl, sym, ap, ◌∙◌}
use mathlib.Core.List.{List, [], ◌∷◌, append-nil}
use mathlib.Core.Bool.{Bool, true, false, cond}
use Prim.Native.Nat.{ℕ, ◌+◌, ◌*◌, ◌%◌, ◌≤◌, ◌<◌}
use native.Mathlib.Nat.{mod-eq_of_lt}
use native.Mathlib.Omega.{arith}
use lib.ListN.{length, get_or}
use Rattle.domain_meaning.specs.Tables.{Entry, Table, entry_at}
use Rattle.domain_meaning.specs.Conditions.{Cond}
use Rattle.domain_meaning.specs.Effects.{Effect}
use Rattle.domain_meaning.specs.Actions.{start, whole, end, moment, Action}
use Rattle.domain_prepared_meaning.specs.Preparing.{action_by}
use Rattle.domain_prepared_meaning.specs.Decode.{lasts_at, tests_at, effects_at, place_in, action_at, actions_at}
use Rattle.domain_prepared_meaning.proofs.Actions.{numbered}
use Rattle.happening_meaning.specs.Happening.{Step, step_of, parts_for, joined, line_of, objects_of, conditions_of, effects_of, rule_of}
use Rattle.happening_forms.specs.Summed.{four_at}
use Rattle.happening_prepared_laws.proofs.Points.{three}
use Rattle.happening_placing.specs.Given.{nameless, action_in, starts, placed_in, step_in, point_in, line_at}

module _ (rows points objects : List ℕ) (j : ℕ) where
  pub line_is : line_of (point_in rows points objects j) ≡ (placed_in rows points j).line
  unfolding point_in step_in placed_in
  line_is = refl

  pub objects_are : objects_of (point_in rows points objects j) ≡ four_at objects j
  unfolding point_in step_in
  objects_are = refl

  pub duration_is : (point_in rows points objects j).step.duration ≡ (placed_in rows points j).duration
  unfolding point_in step_in placed_in
  duration_is = refl

  -- "for a start, the duration rule"
  pub rule_is : rule_of (point_in rows points objects j)
      ≡ cond (placed_in rows points j).begins (lasts_at rows (placed_in rows points j).rule) moment
  unfolding point_in step_in placed_in action_at action_by
  rule_is = go (starts rows points j)
    where
      go : (b : Bool) → rule_of (record { step = step_in rows points objects j; when = cond b start end })
          ≡ cond b (lasts_at rows (place_in rows (action_in rows points j) 0)) moment
      go true = refl
      go false = refl

  pub conditions_are : conditions_of (point_in rows points objects j) ≡ tests_at rows (placed_in rows points j).tests
  unfolding point_in step_in placed_in action_at action_by
  conditions_are = go (starts rows points j)
    where
      tests : ℕ → List Cond
      tests i = tests_at rows (place_in rows (action_in rows points j) i)

      go : (b : Bool) → parts_for (cond b start end) (step_in rows points objects j).conditions ≡ tests (cond b 1 3)
      go true = three start (tests 1) (tests 2) (tests 3) ∙ append-nil (tests 1)
      go false = three end (tests 1) (tests 2) (tests 3)

  pub effects_are : effects_of (point_in rows points objects j) ≡ effects_at rows (placed_in rows points j).effects
  unfolding point_in step_in placed_in action_at action_by parts_for joined
  effects_are = go (starts rows points j)
    where
      effects : ℕ → List Effect
      effects i = effects_at rows (place_in rows (action_in rows points j) i)

      go : (b : Bool) → joined (parts_for (cond b start end) (step_in rows points objects j).effects) ≡ effects (cond b 4 5)
      go true = append-nil (effects 4)
      go false = append-nil (effects 5)

-- what a point is, by its places
pub ruleset by_place = (line_is, objects_are, duration_is, rule_is, conditions_are, effects_are)

module _ (rows objects : List ℕ) (k line action d : ℕ) where
  pub during_is : parts_for whole (line_at rows objects k line action d).conditions ≡ tests_at rows (place_in rows (action % 32) 2)
  unfolding action_at action_by
  during_is =
      three whole (tests_at rows (place_in rows (action % 32) 1)) (tests_at rows (place_in rows (action % 32) 2)) (tests_at rows (place_in rows (action % 32) 3))
      ∙ append-nil (tests_at rows (place_in rows (action % 32) 2))

-- ---- by their numbers

module _ (objects : List ℕ) (k : ℕ) where
  pub four_are : {a b c d : ℕ} → get_or objects (4 * k) 0 ≡ a → get_or objects (4 * k + 1) 0 ≡ b → get_or objects (4 * k + 2) 0 ≡ c
      → get_or objects (4 * k + 3) 0 ≡ d → four_at objects k ≡ a ∷ b ∷ c ∷ d ∷ []
  unfolding four_at
  four_are ea eb ec ed = rw (ea, eb, ec, ed)

module _ (rows points objects : List ℕ) (j : ℕ) where
  pub step_are : {l a d : ℕ} {os : List ℕ} → get_or points (4 * j) 0 ≡ l → get_or points (4 * j + 1) 0 ≡ a → get_or points (4 * j + 3) 0 ≡ d
      → four_at objects j ≡ os → step_in rows points objects j ≡ step_of l (action_at rows (a % 32) nameless) os d
  unfolding step_in
  step_are el ea ed eo = rw (el, ea, ed, eo)

  module _ {x : Step} (is : step_in rows points objects j ≡ x) where
    pub point_start : get_or points (4 * j + 2) 0 ≡ 1 → point_in rows points objects j ≡ record { step = x; when = start }
    unfolding point_in
    point_start e = rw (e, is)

    pub point_end : get_or points (4 * j + 2) 0 ≡ 3 → point_in rows points objects j ≡ record { step = x; when = end }
    unfolding point_in
    point_end e = rw (e, is)

-- of a declared action only its number counts
module _ (rows : List ℕ) (l : ℕ) (os : List ℕ) (d : ℕ) where
  unnamed : (a : ℕ) (e : Entry) → step_of l (action_at rows a e) os d ≡ step_of l (action_at rows a nameless) os d
  unfolding action_at action_by
  unnamed a e = refl

  pub step_for_lem : (es : Table) (a : ℕ) (none : Action) → a < length es → length es ≤ 32
      → step_of l (get_or (actions_at rows 0 es) a none) os d ≡ step_of l (action_at rows (a % 32) nameless) os d
  step_for_lem es a none h few =
      let y : 0 + a ≡ a = omega arith in
      let z : a % 32 ≡ a = mod-eq_of_lt (omega arith) in
      ap (λ (x : Action). step_of l x os d) (numbered es rows 0 a none (omega arith))
      ∙ unnamed (0 + a) (entry_at es a)
      ∙ ap (λ (i : ℕ). step_of l (action_at rows i nameless) os d) (y ∙ sym z)
