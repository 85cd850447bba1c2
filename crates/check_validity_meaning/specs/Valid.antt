-- A valid plan (RULES 11; Fox and Long, Definitions 14 and 18 to 20).
use Rattle.std.specs.Prelude.{ℕ, ◌+◌, ◌≤◌, ◌<◌, List, [], ◌∷◌, map, ◌⊎◌, ◌≡◌}
use Rattle.domain_meaning.specs.Conditions.{Cond}
use Rattle.domain_meaning.specs.Actions.{Action}
use Rattle.happening_meaning.specs.State.{State, Grounds}
use Rattle.happening_meaning.specs.Happening as H
use Rattle.happening_meaning.specs.Happening.{no_objects}
use Rattle.happening_meaning.specs.declared.Outcome.{Outcome}
use Rattle.happening_meaning.specs.declared.Outcome.TheVariants.{Goal}
use Rattle.plan_meaning.specs.Plan.{lasting, Step, time, points, at}
use Rattle.plan_meaning.specs.Promised.{Act, step_for, point_for}
use Rattle.check_validity_meaning.specs.Lists.{All, First, ◌∈◌, Ascending}
use Rattle.check_validity_meaning.specs.Satisfied.{Holds, NotSo}
use Rattle.check_validity_meaning.specs.Happens.{Executable, Result, Within, Spans}
use Rattle.check_validity_meaning.specs.Failing.{Fails, Broken}

-- the time of the last of the happenings, "0.000 if none"
abbrev pub last_of : ℕ → List ℕ → ℕ
last_of u [] = u
last_of u (t ∷ ts) = last_of t ts

abbrev pub times_of : List (Step Act) → List ℕ
times_of plan = map time (points plan)

-- "the happening sequence for P is .. the ordered sequence of time points formed from the set of times"
pub record HappeningSequence (plan : List (Step Act)) (ts : List ℕ) : Type 0 where
  pub ordered : Ascending 0 ts
  pub every : All (λ t. t ∈ ts) (times_of plan)
  pub only : All (λ t. t ∈ times_of plan) ts

-- the same as far as it lies below b
pub record HappeningsBelow (plan : List (Step Act)) (b : ℕ) (ts : List ℕ) : Type 0 where
  pub ordered : Ascending 0 ts
  pub every : All (λ t. t < b → t ∈ ts) (times_of plan)
  pub only : All (λ t. (t < b) × (t ∈ times_of plan)) ts

-- "every durative line with start at or before, and end after, this time"
pub record UnderWay (t : ℕ) (x : Step Act) : Type 0 where
  pub duration : ℕ
  pub durative : x.span ≡ lasting duration
  pub started : x.start ≤ t
  pub ending : t < x.start + duration

-- as' are the domain's actions
module _ (g : Grounds) (as' : List Action) (plan : List (Step Act)) where
  -- "All points of one time, by line number, form a happening."
  abbrev pub happening_at : ℕ → List H.Point
  happening_at t = map (point_for as') (at t (points plan))

  -- what the line asks of time t
  abbrev pub Spanned : ℕ → State → Step Act → Type 0
  Spanned t s x = UnderWay t x → Spans g s (step_for as' x)

  abbrev pub Breaks : ℕ → State → Outcome → Step Act → Type 0
  Breaks t s w x = UnderWay t x × Broken g s (step_for as' x) w

  -- ---- what goes well

  -- the happening of time t leads from s to n, and what spans it holds there. In Fox and Long, Definition 18 that is tested midway to the next happening;
  -- the state is still n then
  pub record Happens (t : ℕ) (s n : State) : Type 0 where
    pub executable : Executable g s (happening_at t)
    pub result : Result g s (happening_at t) n
    pub within : All (Within g n) (happening_at t)
    pub spanned : All (Spanned t n) plan

  -- "there is a sequence of states": from s through the happenings of these times to e
  abbrev pub Trace : State → List ℕ → State → Type 0
  Trace s [] e = s ≡ e
  Trace s (t ∷ ts) e = (n : State) × Happens t s n × Trace n ts e

  -- the plan is executed from s on: e is its last state, u the time of its last happening
  pub record Executes (s e : State) (u : ℕ) : Type 0 where
    pub times : List ℕ
    pub sequence : HappeningSequence plan times
    pub trace : Trace s times e
    pub last : last_of 0 times ≡ u

  -- "valid if it is executable and if the goal specification is satisfied in the final state"
  pub record Valid (goal : Cond) (s e : State) (u : ℕ) : Type 0 where
    pub executes : Executes s e u
    pub reached : Holds g e no_objects goal

  -- ---- what fails first: "The earliest failure is given, by time, then step, then the orders above."

  -- the happening of time t fails in the state s: w is its first failure, e the state to hand back
  -- "Final facts and numbers: those before the failing happening; after it, if step 5 failed"
  pub data FailsAt (t : ℕ) (s : State) (w : Outcome) (e : State) : Type 0 where
    before : Fails g s (happening_at t) w → s ≡ e → FailsAt t s w e
    after : Executable g s (happening_at t) → Result g s (happening_at t) e → All (Within g e) (happening_at t)
        → First (Spanned t e) (Breaks t e w) plan → FailsAt t s w e

  -- all happenings before time t are executed, and that of time t fails
  pub record Stops (s e : State) (t : ℕ) (w : Outcome) : Type 0 where
    pub times : List ℕ
    pub earlier : HappeningsBelow plan t times
    pub now : t ∈ times_of plan
    pub state : State
    pub trace : Trace s times state
    pub fails : FailsAt t state w e

  -- all happenings are executed, and the goal is not met
  pub record Misses (goal : Cond) (s e : State) (u : ℕ) (w : Outcome) : Type 0 where
    pub executes : Executes s e u
    pub missed : NotSo g e no_objects Goal 0 goal w

  abbrev pub FailsFirst : Cond → State → State → ℕ → Outcome → Type 0
  FailsFirst goal s e t w = Stops s e t w ⊎ Misses goal s e t w
