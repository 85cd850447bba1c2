-- What a verdict on a plan tells: the time of one of its points, 0 if there is none, and lines of its steps. Assumes nothing.
use mathlib.Core.List.{List, [], ◌∷◌, ◌++◌}
use mathlib.Core.Logic.{inl, inr}
use mathlib.Core.Path.{◌≡◌, refl, subst}
use Prim.Native.Nat.{ℕ}
use lib.Dec.{eqb}
use Rattle.domain_meaning.specs.Conditions.{Cond}
use Rattle.domain_meaning.specs.Actions.{Action}
use Rattle.happening_meaning.specs.State.{State, Grounds}
use Rattle.happening_meaning.specs.Happening as H
use Rattle.happening_meaning.specs.Happening.{no_objects}
use Rattle.happening_meaning.specs.declared.Outcome.{Outcome}
use Rattle.happening_meaning.specs.declared.Outcome.TheVariants.{Goal}
use Rattle.plan_meaning.specs.Plan.{Span, moment, lasting, Step, Point, time, ending, points, at, Run, going, failed, verdict}
use Rattle.plan_meaning.specs.Promised.{Act, step_for, point_for}
use Rattle.plan_meaning.proofs.Lists.{all_map}
use Rattle.check_validity_meaning.specs.Lists.{All}
use Rattle.check_validity_meaning.specs.Valid.{last_of, times_of, happening_at, Spanned, FailsAt, before, after, Executes, FailsFirst}
use Rattle.check_validity_meaning.proofs.Lists.{all_in, all_kept, all_mapped, first_in_lem}
use Rattle.check_validity_meaning.proofs.Naming.{Names, not_so_names, fails_names, broken_names}
use Rattle.check_validity_meaning.proofs.Instant.{run_time, run_word, rules}
use Rattle.check_validity_meaning.proofs.Exactly.{exactly_valid, exactly_first}

-- ---- the lines of a plan's points and of its steps under way

module _ (L : ℕ → Type 0) (as' : List Action) where
  abbrev Lined : Point Act → Type 0
  Lined p = L (H.line_of (point_for as' p))

  points_lined : (plan : List (Step Act)) → All (λ x. L x.line) plan → All Lined (points plan)
  points_lined [] a = tt
  points_lined (x ∷ xs) a = (a.0, go x.span (points_lined xs a.1))
    where
      go : (d : Span) → All Lined (points xs) → All Lined (ending x d ++ points xs)
      go moment ih = ih
      go (lasting d) ih = (a.0, ih)

-- ---- L of the plan's lines and of 0, T of its times and of 0

last_so : (T : ℕ → Type 0) (u : ℕ) (ts : List ℕ) → T u → All T ts → T (last_of u ts)
last_so T u [] h a = h
last_so T u (t ∷ ts) h a = last_so T t ts a.0 a.1

module _ (g : Grounds) (goal : Cond) (as' : List Action) (s0 : State) (plan : List (Step Act)) where
  module _ (T : ℕ → Type 0) (zero-so : T 0) (times : All T (times_of plan)) where
    executed_time : (e : State) (u : ℕ) → Executes g as' plan s0 e u → T u
    executed_time e u x = subst T x.last (last_so T 0 x.times zero-so (all_map (all_in T (times_of plan) times) x.times x.sequence.only))

    failure_time : (e : State) (t : ℕ) (w : Outcome) → FailsFirst g as' plan goal s0 e t w → T t
    failure_time e t w (inl x) = all_in T (times_of plan) times t x.now
    failure_time e t w (inr x) = executed_time e t x.executes

    pub verdict_time : T (run_time (verdict (rules g goal as' s0) plan))
    verdict_time = go (verdict (rules g goal as' s0) plan) refl
      where
        go : (r : Run State Outcome) → verdict (rules g goal as' s0) plan ≡ r → T (run_time r)
        go (going e t) q = executed_time e t ((exactly_valid g goal as' s0 plan e t).0 q).executes
        go (failed e t w) q = failure_time e t w ((exactly_first g goal as' s0 plan e t w).0 q)

  module _ (L : ℕ → Type 0) (zero-so : L 0) (lines : All (λ x. L x.line) plan) where
    points_at : (t : ℕ) → All (λ p. L (H.line_of p)) (happening_at g as' plan t)
    points_at t =
        all_mapped (λ (p : H.Point). L (H.line_of p)) (point_for as') (at t (points plan))
        (all_kept (Lined L as') (λ (p : Point Act). eqb (time p) t) (points plan) (points_lined L as' plan lines))

    instant_names : (t : ℕ) (s e : State) (w : Outcome) → FailsAt g as' plan t s w e → Names L w
    instant_names t s e w (before x q) = fails_names L w g s (happening_at g as' plan t) (points_at t) x
    instant_names t s e w (after x r a b) =
        first_in_lem (Spanned g as' plan t e) plan (λ y i h. broken_names L w g e (step_for as' y) (all_in (λ (z : Step Act). L z.line) plan lines y i) h.1) b

    failure_names : (e : State) (t : ℕ) (w : Outcome) → FailsFirst g as' plan goal s0 e t w → Names L w
    failure_names e t w (inl x) = instant_names t x.state e w x.fails
    failure_names e t w (inr x) = not_so_names L w Goal 0 refl tt zero-so g e no_objects goal x.missed

    pub verdict_names : Names L (run_word (verdict (rules g goal as' s0) plan))
    verdict_names = go (verdict (rules g goal as' s0) plan) refl
      where
        go : (r : Run State Outcome) → verdict (rules g goal as' s0) plan ≡ r → Names L (run_word r)
        go (going e t) q = tt
        go (failed e t w) q = failure_names e t w ((exactly_first g goal as' s0 plan e t w).0 q)
