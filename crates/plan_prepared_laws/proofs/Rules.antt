-- The rules of a plan over prepared actions are those over the actions. Assumes nothing.
use Prim.Native.Nat.{ℕ, zero, suc}
use mathlib.Core.Path.{◌≡◌}
use mathlib.Core.List.{List, [], ◌∷◌, map}
use Rattle.domain_meaning.specs.Tables.{entry}
use Rattle.domain_meaning.specs.Conditions.{Cond}
use Rattle.domain_meaning.specs.Actions.{Action}
use Rattle.domain_prepared_meaning.specs.Preparing.{goal_of}
use Rattle.domain_prepared_meaning.specs.Preparing as D
use Rattle.happening_meaning.specs.State.{State}
use Rattle.happening_meaning.specs.Happening.{happening, spanning, promises}
use Rattle.happening_prepared_laws.specs.Summed.{summed}
use Rattle.happening_prepared_laws.proofs.Conditions.{grounds}
use Rattle.happening_prepared_laws.proofs.Points.{Prepared, prepared, nothing_prepared, Alike, Alikes, none, more, AlikeStep, AlikeSteps}
use Rattle.happening_prepared_laws.proofs.Points.{alike_start, alike_end, alike_step}
use Rattle.happening_prepared_laws.proofs.Happening.{happening_same, spanning_same, reached_same}
use Rattle.plan_meaning.specs.Plan.{Step, Point, begins, ends}
use Rattle.plan_meaning.specs.Promised.{Act, duration_of, action_of, step_for, point_for, failure, outcome_of, rules_of}

-- with n objects, the first indexes of predicates (ps) and of functions (fs)
module _ (n : ℕ) (ps fs : List ℕ) where
  abbrev pub preparing : List Action → List Action
  preparing as' = map (D.action_of n ps fs) as'

  -- also past the last action
  action_prepared : (as' : List Action) (i : ℕ) → Prepared n ps fs (action_of (preparing as') i) (action_of as' i)
  action_prepared [] i = nothing_prepared n ps fs (entry [] [])
  action_prepared (a ∷ as') zero = prepared n ps fs a
  action_prepared (a ∷ as') (suc i) = action_prepared as' i

  module _ (as' : List Action) where
    step_alike : (x : Step Act) → AlikeStep n ps fs (step_for (preparing as') x) (step_for as' x)
    step_alike x = alike_step n ps fs (action_prepared as' x.act.action) x.line x.act.objects (duration_of x.span)

    steps_alike : (xs : List (Step Act)) → AlikeSteps n ps fs (map (step_for (preparing as')) xs) (map (step_for as') xs)
    steps_alike [] = none
    steps_alike (x ∷ xs) = more (step_alike x) (steps_alike xs)

    point_alike : (q : Point Act) → Alike n ps fs (point_for (preparing as') q) (point_for as' q)
    point_alike (begins x) = alike_start n ps fs (action_prepared as' x.act.action) x.line x.act.objects (duration_of x.span)
    point_alike (ends x d) = alike_end n ps fs (action_prepared as' x.act.action) x.line x.act.objects (duration_of x.span)

    points_alike : (qs : List (Point Act)) → Alikes n ps fs (map (point_for (preparing as')) qs) (map (point_for as') qs)
    points_alike [] = none
    points_alike (q ∷ qs) = more (point_alike q) (points_alike qs)

    -- ---- what happens, what is under way, the goal

    pub points_happen : (s : State) (qs : List (Point Act))
        → happening summed s (map (point_for (preparing as')) qs) ≡ happening (grounds n ps fs) s (map (point_for as') qs)
    points_happen s qs = happening_same n ps fs s (points_alike qs)

    pub steps_span : (s : State) (xs : List (Step Act))
        → spanning summed s (map (step_for (preparing as')) xs) ≡ spanning (grounds n ps fs) s (map (step_for as') xs)
    steps_span s xs = spanning_same n ps fs s (steps_alike xs)

    pub rules_same : (c : Cond) (s : State)
        → rules_of (promises summed (goal_of n ps fs c)) (preparing as') s ≡ rules_of (promises (grounds n ps fs) c) as' s
    rules_same c s = λ i. record {
      begin = s;
      happen = λ u qs. outcome_of (points_happen u qs i);
      over = λ u xs. failure (steps_span u xs i);
      goal = λ u. failure (reached_same n ps fs c u i);
    }
