-- Points and lines under way, as steps of the prepared rows; and what is known of a line while its end waits: what it looks at, and that its conditions hold.
use Rattle.std.specs.Prelude.{ℕ, ◌%◌, ◌≤◌, ◌<◌, Bool, true, cond, ◌&&◌, List, [], ◌∷◌, map, ◌≡◌, eqb, ltb, length, get_or}
use Rattle.std.specs.Int.Bits.{bit_and}
use Rattle.domain_meaning.specs.Actions.{start, end}
use Rattle.domain_prepared_meaning.specs.Decode.{action_at}
use Rattle.happening_meaning.specs.State.{State}
use Rattle.happening_meaning.specs.Happening as H
use Rattle.happening_meaning.specs.Happening.{step_of, spans}
use Rattle.happening_meaning.specs.declared.Outcome.{Outcome}
use Rattle.happening_meaning.specs.declared.Outcome.TheVariants.{Done}
use Rattle.happening_forms.specs.Summed.{summed}
use Rattle.happening_placing.specs.Given.{nameless}
use Rattle.happening_steps.specs.Watching.{watching}
use Rattle.plan_meaning.specs.Lists.{keep}
use Rattle.plan_meaning.specs.Plan.{time}
use Rattle.plan_meaning.specs.Stored.{point_in}
use Rattle.plan_meaning.specs.declared.Step.{Step}
use Rattle.plan_meaning.specs.declared.Slot.{Slot}
use Rattle.plan_waiting.specs.Lent.{slot_in, place_at}

-- ---- by the rows

-- the step of a line: its action is one of 32
abbrev pub step_on : List ℕ → Step → H.Step
step_on rows x = step_of x.line (action_at rows (x.action % 32) nameless) (x.a ∷ x.b ∷ x.c ∷ x.d ∷ []) x.duration

abbrev pub point_on : List ℕ → Slot → H.Point
point_on rows s = record { step = step_on rows s.step; when = cond s.ends end start }

-- its point has the time t
abbrev pub is_at : ℕ → Slot → Bool
is_at t s = eqb (time (point_in s)) t

-- it is the end of a step, and lies after t
abbrev pub is_open : ℕ → Slot → Bool
is_open t s = s.ends && ltb t (time (point_in s))

-- the points of time t
abbrev pub points_on : List ℕ → ℕ → List Slot → List H.Point
points_on rows t l = map (point_on rows) (keep (is_at t) l)

-- the lines under way at t
abbrev pub lines_on : List ℕ → ℕ → List Slot → List H.Step
lines_on rows t l = map (λ s. step_on rows s.step) (keep (is_open t) l)

-- ---- what is known of a line

-- the point that came as number i
abbrev pub slot_on : List ℕ → List ℕ → ℕ → Slot
slot_on words objects i = slot_in words objects (place_at words i)

-- w is what the line looks at, and its conditions over all hold in s
abbrev pub Holds : List ℕ → Slot → ℕ → State → Type 0
Holds rows x w s = (w ≡ watching summed (step_on rows x.step)) × (spans summed s (step_on rows x.step) ≡ Done)

-- w is what the line looks at, and its conditions over all hold in s if nothing of it was written
abbrev pub Spares : List ℕ → Slot → ℕ → ℕ → State → Type 0
Spares rows x w written s =
    (w ≡ watching summed (step_on rows x.step))
    × (bit_and (watching summed (step_on rows x.step)) written ≡ 0 → spans summed s (step_on rows x.step) ≡ Done)

-- of the first n points each end whose line starts below `get_or watches 64 0`
pub record Spared (rows words objects : List ℕ) (n : ℕ) (watches : List ℕ) (written : ℕ) (s : State) : Type 0 where
  pub long : length watches ≡ 65
  pub lines : (i : ℕ) → i < n → (slot_on words objects i).ends ≡ true → (slot_on words objects i).step.start < get_or watches 64 0
      → Spares rows (slot_on words objects i) (get_or watches (place_at words i) 0) written s

-- the same of those that lie after t
pub record Spanned (rows words objects : List ℕ) (n t : ℕ) (watches : List ℕ) (s : State) : Type 0 where
  pub long : length watches ≡ 65
  pub lines : (i : ℕ) → i < n → is_open t (slot_on words objects i) ≡ true → (slot_on words objects i).step.start < get_or watches 64 0
      → Holds rows (slot_on words objects i) (get_or watches (place_at words i) 0) s

-- ---- what a function leaves

-- step 5 for the line x at place p, if it is under way at t: the outcome, and its watch
pub record Judged (rows : List ℕ) (x : Slot) (p t : ℕ) (watches watches' : List ℕ) (s : State) (r : Outcome) : Type 0 where
  pub long : length watches' ≡ 65
  pub other : (j : ℕ) → (j ≡ p → ⊥) → get_or watches' j 0 ≡ get_or watches j 0
  pub outcome : r ≡ cond (is_open t x) (spans summed s (step_on rows x.step)) Done
  pub watch : is_open t x ≡ true → get_or watches' p 0 ≡ watching summed (step_on rows x.step)

-- less is claimed: of no line that starts at b or later
pub record Claimed (watches watches' : List ℕ) (b : ℕ) : Type 0 where
  pub long : length watches' ≡ 65
  pub other : (j : ℕ) → (j ≡ 64 → ⊥) → get_or watches' j 0 ≡ get_or watches j 0
  pub less : get_or watches' 64 0 ≤ get_or watches 64 0
  pub most : get_or watches' 64 0 ≤ b
