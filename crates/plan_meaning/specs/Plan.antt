-- What a plan means, over the whole plan at once. Nothing here speaks of parts, or of what a checker keeps while it waits. RULES 11.
use Rattle.std.specs.Prelude.{ℕ, zero, suc, ◌+◌, max, Bool, false, cond, ◌&&◌, List, [], ◌∷◌, ◌++◌, leb, ltb, eqb, length}
use Rattle.std.proofs.Math.Option.{Option, some, none}
use Rattle.plan_meaning.specs.Lists.{keep}

-- how long a step lasts: not at all, or so many thousandths
pub data Span : Type 0 where
  moment : Span
  lasting : ℕ → Span

-- a step of a plan: its line, its start in thousandths, its span, and what it does
pub record Step (A : Type 0) : Type 0 where
  pub line : ℕ
  pub start : ℕ
  pub span : Span
  pub act : A

-- "A durative line gives two points, at start and start plus duration; a simple line one."
pub data Point (A : Type 0) : Type 0 where
  begins : Step A → Point A
  ends : Step A → ℕ → Point A

-- a happening gives a next state, or the reason why it fails
pub data Outcome (S W : Type 0) : Type 0 where
  next : S → Outcome S W
  stop : W → Outcome S W

-- a run so far: the state and the time of the last happening, 0 if none; or a failure: the state to hand back, "those before the failing happening;
-- after it, if
-- step 5 failed", its time and its reason
pub data Run (S W : Type 0) : Type 0 where
  going : S → ℕ → Run S W
  failed : S → ℕ → W → Run S W

-- what the layer of happenings promises: steps 1 to 4 for the points of one time, step 5 for the lines under way, the goal
pub record Rules (S A W : Type 0) : Type 0 where
  pub begin : S
  pub happen : S → List (Point A) → Outcome S W
  pub over : S → List (Step A) → Option W
  pub goal : S → Option W

abbrev pub ends_after : ℕ → ℕ → Span → Bool
ends_after t s moment = false
ends_after t s (lasting d) = ltb t (s + d)

abbrev pub tested : {S W : Type 0} → ℕ → S → Option W → Run S W
tested t s none = going s t
tested t s (some w) = failed s t w

module _ {A : Type 0} where
  abbrev pub time : Point A → ℕ
  time (begins x) = x.start
  time (ends x d) = x.start + d

  abbrev pub ending : Step A → Span → List (Point A)
  ending x moment = []
  ending x (lasting d) = ends x d ∷ []

  abbrev pub points_of : Step A → List (Point A)
  points_of x = begins x ∷ ending x x.span

  -- the points of a plan, by line
  abbrev pub points : List (Step A) → List (Point A)
  points [] = []
  points (x ∷ xs) = points_of x ++ points xs

  -- "All points of one time, by line number, form a happening."
  abbrev pub at : ℕ → List (Point A) → List (Point A)
  at t = keep (λ p. eqb (time p) t)

  -- the points from a time on
  abbrev pub from : ℕ → List (Point A) → List (Point A)
  from t = keep (λ p. leb t (time p))

  -- the time of the last point, 0 if there is none
  abbrev pub latest : List (Point A) → ℕ
  latest [] = 0
  latest (p ∷ ps) = max (time p) (latest ps)

  -- "every durative line with start at or before, and end after, this time"
  abbrev pub under : ℕ → Step A → Bool
  under t x = leb x.start t && ends_after t x.start x.span

module _ {S A W : Type 0} (R : Rules S A W) where
  abbrev pub after : ℕ → S → List (Step A) → Outcome S W → Run S W
  after t s xs (stop w) = failed s t w
  after t s xs (next n) = tested t n (R.over n xs)

  -- one instant: its points happen, then the conditions of the lines under way are tested, "In the new state". Where no point lies nothing happens, and after
  -- a failure nothing happens any more: "The earliest failure is given"
  abbrev pub instant : ℕ → List (Point A) → List (Step A) → Run S W → Run S W
  instant t [] xs r = r
  instant t (p ∷ ps) xs (failed s u w) = failed s u w
  instant t (p ∷ ps) xs (going s u) = after t s xs (R.happen s (p ∷ ps))

  -- the run of a plan through the instants below a time: 0, 1, 2 and so on
  unfoldable pub up_to : List (Step A) → ℕ → Run S W
  up_to plan zero = going R.begin 0
  up_to plan (suc t) = instant t (at t (points plan)) (keep (under t) plan) (up_to plan t)

  abbrev pub judged : Run S W → Run S W
  judged (failed s t w) = failed s t w
  judged (going s t) = tested t s (R.goal s)

  -- the verdict on a plan: "The last state of all meets the goal."
  unfoldable pub verdict : List (Step A) → Run S W
  verdict plan = judged (up_to plan (suc (latest (points plan))))

-- what is read from a line
pub data Answer (A E : Type 0) : Type 0 where
  blank : Answer A E
  step : Step A → Answer A E
  refusal : E → Answer A E

-- the refusals that the plan makes, beside those of its lines
pub record Limits (A E : Type 0) : Type 0 where
  pub waiting : ℕ
  pub crowded : Step A → E

-- what a text comes to
pub data Result (S W E : Type 0) : Type 0 where
  refused : E → Result S W E
  ended : Run S W → Result S W E

abbrev pub steps : {A E : Type 0} → List (Answer A E) → List (Step A)
steps [] = []
steps (blank ∷ ls) = steps ls
steps (step x ∷ ls) = x ∷ steps ls
steps (refusal e ∷ ls) = steps ls

module _ {A E : Type 0} (L : Limits A E) where
  -- "After a line is read, the points of all lines so far whose time is not below that line's start are waiting."
  abbrev pub too_many : List (Step A) → Step A → Bool
  too_many before x = ltb L.waiting (length (from x.start (points (before ++ x ∷ []))))

  -- the first refusal among the answers that are left, with the steps before them
  unfoldable pub first_refusal : List (Step A) → List (Answer A E) → Option E
  first_refusal before [] = none
  first_refusal before (blank ∷ ls) = first_refusal before ls
  first_refusal before (refusal e ∷ ls) = some e
  first_refusal before (step x ∷ ls) = cond (too_many before x) (some (L.crowded x)) (first_refusal (before ++ x ∷ []) ls)

abbrev pub unless : {S W E : Type 0} → Option E → Run S W → Result S W E
unless none r = ended r
unless (some e) r = refused e

module _ {S A W E : Type 0} (R : Rules S A W) (L : Limits A E) where
  -- what the answers of a plan's lines come to: a plan refusal "outranks every verdict"
  unfoldable pub result : List (Answer A E) → Result S W E
  result ls = unless (first_refusal L [] ls) (verdict R (steps ls))
