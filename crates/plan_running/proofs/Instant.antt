-- A run as the code's numbers say it: through an instant, and at the goal. Assumes nothing.
use Prim.Native.Nat.{ℕ, ◌<◌}
use mathlib.Core.Bool.{Bool, true, false}
use mathlib.Core.List.{List, [], ◌∷◌, map}
use mathlib.Core.Path.{◌≡◌, refl, ap, ◌∙◌}
use native.Mathlib.Omega.{arith}
use lib.ListN.{length}
use Rattle.domain_meaning.specs.Conditions.{Cond}
use Rattle.domain_meaning.specs.Actions.{Action}
use Rattle.happening_meaning.specs.State.{State, Grounds}
use Rattle.happening_meaning.specs.Happening as H
use Rattle.happening_meaning.specs.Happening.{is_done, Happened, happened, happening, spanning, reached, promises}
use Rattle.happening_meaning.specs.declared.Outcome.{Outcome}
use Rattle.happening_meaning.specs.declared.Outcome.TheVariants.{Done}
use Rattle.happening_steps.specs.Instants.{instant_of}
use Rattle.happening_steps.proofs.Promised.{instant_done, instant_failed}
use Rattle.plan_meaning.specs.Plan.{Step, Point, Run, Rules, tested, after, instant}
use Rattle.plan_meaning.specs.Promised.{Act, step_for, point_for, failure, outcome_of, rules_of}
use Rattle.plan_running.specs.Running.{run_in}
use Rattle.plan_running.specs.declared.Past.{Past}

abbrev past : Outcome → ℕ → Past
past o t = record { outcome = o; time = t }

-- what an instant at t leaves
abbrev leaves : ℕ → Happened → Run State Outcome
leaves t h = run_in (past h.outcome t) h.state

run_tested : (o : Outcome) (t : ℕ) (s : State) → run_in (past o t) s ≡ tested t s (failure o)
run_tested o t s = go (is_done o) refl
  where
    go : (b : Bool) → is_done o ≡ b → run_in (past o t) s ≡ tested t s (failure o)
    go true e = rw e
    go false e = rw e

-- ---- a run that has not failed

module _ (g : Grounds) (c : Cond) (actions : List Action) (s₀ : State) where
  abbrev R : Rules State Act Outcome
  R = rules_of (promises g c) actions s₀

  -- an instant, by what the happening's outcome is
  after_run : (t : ℕ) (s : State) (ps : List H.Point) (xs : List (Step Act))
      → leaves t (instant_of g s ps (map (step_for actions) xs)) ≡ after R t s xs (outcome_of (happening g s ps))
  after_run t s ps xs = go (is_done (happening g s ps).outcome) refl
    where
      ys : List H.Step
      ys = map (step_for actions) xs

      go : (b : Bool) → is_done (happening g s ps).outcome ≡ b → leaves t (instant_of g s ps ys) ≡ after R t s xs (outcome_of (happening g s ps))
      go true e = ap (leaves t) (instant_done g s ps ys e) ∙ rw e (run_tested (spanning g (happening g s ps).state ys) t (happening g s ps).state)
      go false e = ap (leaves t) (instant_failed g s ps ys e) ∙ rw e

  pub instant_run : (t : ℕ) (ps : List (Point Act)) (xs : List (Step Act)) → 0 < length ps → (p : Past) (s : State) → p.outcome ≡ Done
      → {o : Outcome} {s' : State} {qs : List H.Point} {ys : List H.Step} → happened o s' ≡ instant_of g s qs ys → qs ≡ map (point_for actions) ps
      → ys ≡ map (step_for actions) xs → run_in (record { outcome = o; time = t }) s' ≡ instant R t ps xs (run_in p s)
  instant_run t [] xs l p s d eh eq ey = absurd (let y : ⊥ = omega arith in y)
  instant_run t (q ∷ ps) xs l p s d eh eq ey =
      rw d (ap (leaves t) (rw (eq, ey) at eh) ∙ after_run t s (map (point_for actions) (q ∷ ps)) xs)
