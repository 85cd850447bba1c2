-- Why a plan fails: every reason comes from a happening, from the lines under way or from the goal. Assumes nothing.
use Prim.Native.Nat.{ℕ, zero, suc}
use mathlib.Core.List.{List, [], ◌∷◌}
use mathlib.Core.Option.{Option, some, none}
use mathlib.Core.Path.{◌≡◌, refl}
use Rattle.plan_meaning.specs.Lists.{keep}
use Rattle.plan_meaning.specs.Plan.{Step, Point, Outcome, next, stop, Run, going, failed, Rules, tested, points, at, latest, under, after, instant, up_to}
use Rattle.plan_meaning.specs.Plan.{judged, verdict}

module _ {S A W : Type 0} (R : Rules S A W) (Q : W → Type 0) where
  -- the reasons that the layer of happenings gives
  pub record Reasons : Type 0 where
    pub happens : (s : S) (ps : List (Point A)) (w : W) → R.happen s ps ≡ stop w → Q w
    pub spans : (s : S) (xs : List (Step A)) (w : W) → R.over s xs ≡ some w → Q w
    pub ends : (s : S) (w : W) → R.goal s ≡ some w → Q w

  abbrev pub StopsBy : Run S W → Type 0
  StopsBy (going s t) = Unit {0}
  StopsBy (failed s t w) = Q w

  module _ (h : Reasons) (plan : List (Step A)) where
    tested_by : (t : ℕ) (s : S) (o : Option W) → ((w : W) → o ≡ some w → Q w) → StopsBy (tested t s o)
    tested_by t s none f = tt
    tested_by t s (some w) f = f w refl

    after_by : (t : ℕ) (s : S) (xs : List (Step A)) (o : Outcome S W) → ((w : W) → o ≡ stop w → Q w) → StopsBy (after R t s xs o)
    after_by t s xs (stop w) f = f w refl
    after_by t s xs (next n) f = tested_by t n (R.over n xs) (h.spans n xs)

    instant_by : (t : ℕ) (ps : List (Point A)) (xs : List (Step A)) (r : Run S W) → StopsBy r → StopsBy (instant R t ps xs r)
    instant_by t [] xs r k = k
    instant_by t (p ∷ ps) xs (failed s u w) k = k
    instant_by t (p ∷ ps) xs (going s u) k = after_by t s xs (R.happen s (p ∷ ps)) (h.happens s (p ∷ ps))

    run_by : (n : ℕ) → StopsBy (up_to R plan n)
    unfolding up_to
    run_by zero = tt
    run_by (suc n) = instant_by n (at n (points plan)) (keep (under n) plan) (up_to R plan n) (run_by n)

    judged_by : (r : Run S W) → StopsBy r → StopsBy (judged R r)
    judged_by (failed s t w) k = k
    judged_by (going s t) k = tested_by t s (R.goal s) (h.ends s)

    pub verdict_by : StopsBy (verdict R plan)
    unfolding verdict
    verdict_by = judged_by (up_to R plan (suc (latest (points plan)))) (run_by (suc (latest (points plan))))
