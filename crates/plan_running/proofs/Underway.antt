-- The points of a time and the lines under way, by the rows, are those of the plan's machine. Assumes nothing.
use Prim.Native.Nat.{ℕ, ◌≤◌, ◌<◌}
use mathlib.Core.Bool.{Bool, true, false}
use mathlib.Core.List.{List, [], ◌∷◌, map}
use mathlib.Core.Path.{◌≡◌, refl}
use lib.Dec.{ltb}
use lib.ListN.{length}
use Rattle.base_laws.proofs.Splits.{and_left, and_right}
use Rattle.domain_meaning.specs.Tables.{Table}
use Rattle.domain_meaning.specs.Actions.{Action}
use Rattle.domain_prepared_meaning.specs.Decode.{actions_at}
use Rattle.happening_placing.proofs.Placing.{step_for_lem}
use Rattle.plan_meaning.specs.Plan.{time, at}
use Rattle.plan_meaning.specs.Machine.{under_way}
use Rattle.plan_meaning.specs.Promised.{none_such, point_for, step_for}
use Rattle.plan_meaning.specs.Stored.{step_in, point_in}
use Rattle.plan_meaning.specs.declared.Step.{Step}
use Rattle.plan_meaning.specs.declared.Slot.{Slot}
use Rattle.plan_meaning.proofs.Stored.{duration_back}
use Rattle.plan_waiting.specs.Waiting.{sound_step, sound_all}
use Rattle.plan_waiting.proofs.Soundness.{sound_action}
use Rattle.plan_running.specs.Lines.{step_on, point_on, is_at, points_on, lines_on}

module _ (rows : List ℕ) (es : Table) (few : length es ≤ 32) where
  abbrev actions : List Action
  actions = actions_at rows 0 es

  step_is : (x : Step) → x.action < length es → step_for actions (step_in x) ≡ step_on rows x
  unfolding step_in
  step_is x h =
      rw (duration_back x.duration) (step_for_lem rows x.line (x.a ∷ x.b ∷ x.c ∷ x.d ∷ []) x.duration es x.action none_such h few)

  module _ (s : Slot) (ss : List Slot) (h : sound_all (length es) (s ∷ ss) ≡ true) where
    rest_sound : sound_all (length es) ss ≡ true
    unfolding sound_all
    rest_sound = and_right (sound_step (length es) s.step) (sound_all (length es) ss) h

    first_step : step_for actions (step_in s.step) ≡ step_on rows s.step
    unfolding sound_all
    first_step = step_is s.step (sound_action (length es) s.step (and_left (sound_step (length es) s.step) (sound_all (length es) ss) h))

    first_point : point_for actions (point_in s) ≡ point_on rows s
    unfolding point_in
    first_point = go s.ends refl
      where
        go : (b : Bool) → s.ends ≡ b → point_for actions (point_in s) ≡ point_on rows s
        go true e = rw (e, first_step)
        go false e = rw (e, first_step)

  module _ (t : ℕ) where
    pub points_are : (l : List Slot) → sound_all (length es) l ≡ true → map (point_for actions) (at t (map point_in l)) ≡ points_on rows t l
    points_are [] h = refl
    points_are (s ∷ ss) h = go (is_at t s) refl (points_are ss (rest_sound s ss h))
      where
        go : (b : Bool) → is_at t s ≡ b → map (point_for actions) (at t (map point_in ss)) ≡ points_on rows t ss
            → map (point_for actions) (at t (map point_in (s ∷ ss))) ≡ points_on rows t (s ∷ ss)
        go true e ih = rw (e, first_point s ss h, ih)
        go false e ih = rw (e, ih)

    pub lines_are : (l : List Slot) → sound_all (length es) l ≡ true → map (step_for actions) (under_way t (map point_in l)) ≡ lines_on rows t l
    unfolding point_in
    lines_are [] h = refl
    lines_are (s ∷ ss) h = go s.ends (ltb t (time (point_in s))) refl refl (lines_are ss (rest_sound s ss h))
      where
        go : (a b : Bool) → s.ends ≡ a → ltb t (time (point_in s)) ≡ b → map (step_for actions) (under_way t (map point_in ss)) ≡ lines_on rows t ss
            → map (step_for actions) (under_way t (map point_in (s ∷ ss))) ≡ lines_on rows t (s ∷ ss)
        go true true e k ih = let k' = rw e at k in rw (e, k', first_step s ss h, ih)
        go true false e k ih = let k' = rw e at k in rw (e, k', ih)
        go false b e k ih = rw (e, ih)
