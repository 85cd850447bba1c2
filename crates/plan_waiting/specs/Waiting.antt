-- The points that wait, as a list; and the test of their numbers.
use Rattle.std.specs.Prelude.{◌≡◌, ℕ, ◌-◌, ◌≤◌, Bool, true, false, ◌&&◌, List, [], ◌∷◌, ◌++◌, map, ltb, leb, length, take, replicate}
use Rattle.plan_meaning.specs.Plan.{Point}
use Rattle.plan_meaning.specs.Promised.{Act}
use Rattle.plan_meaning.specs.Stored.{point_in}
use Rattle.plan_meaning.specs.Listed.{listed_line}
use Rattle.plan_meaning.specs.declared.Step.{Step}
use Rattle.plan_meaning.specs.declared.Slot.{Slot}
use Rattle.plan_waiting.specs.declared.Queue.{Queue}

-- the places that are in use
abbrev pub used : Queue → List Slot
used q = take q.count q.slots

abbrev pub waiting : Queue → List (Point Act)
waiting q = map point_in (used q)

abbrev pub no_step : Step
no_step = record { line = 0; start = 0; duration = 0; action = 0; a = 0; b = 0; c = 0; d = 0; width = 0 }

abbrev pub no_slot : Slot
no_slot = record { step = no_step; ends = false }

-- the queue of a list: zeros in the places that are not in use
unfoldable pub queue_of : List Slot → Queue
queue_of l = record { slots = l ++ replicate (64 - length l) no_slot; count = length l }

-- its action is one of n, and its times are numbers of a plan line, which are below 10^12
unfoldable pub sound_step : ℕ → Step → Bool
sound_step n x = ltb x.action n && ltb x.start 1000000000000 && ltb x.duration 1000000000000

unfoldable pub sound_all : ℕ → List Slot → Bool
sound_all n [] = true
sound_all n (s ∷ ss) = sound_step n s.step && sound_all n ss

-- its line is one of a plan, of at most 256 bytes
unfoldable pub listed_step : Step → Bool
listed_step x = listed_line x.line && leb x.width 256

-- all that is tested of points
abbrev pub step_fits : ℕ → Step → Bool
step_fits n x = sound_step n x && listed_step x

unfoldable pub slots_fit : ℕ → List Slot → Bool
slots_fit n [] = true
slots_fit n (s ∷ ss) = step_fits n s.step && slots_fit n ss

abbrev pub Sound : ℕ → Queue → Type 0
Sound n q = (q.count ≤ 64) × (sound_all n (used q) ≡ true)

-- for some number of actions: what the times need
abbrev pub TimedStep : Step → Type 0
TimedStep x = (n : ℕ) × (sound_step n x ≡ true)

abbrev pub Timed : Queue → Type 0
Timed q = (n : ℕ) × Sound n q
