-- A place in use of a lent queue whose times are known, and those whose keys are in front. Assumes nothing.
use Prim.Native.Nat.{ℕ, ◌+◌, ◌%◌, ◌≤◌, ◌<◌}
use mathlib.Core.List.{List, map}
use mathlib.Core.Path.{◌≡◌, ap, sym, ◌∙◌}
use native.Mathlib.Omega.{arith}
use lib.ListN.{length, get_or, drop, length-drop, length-map}
use lib.Seq.{get_or-take, get_or-drop, length-take-le}
use Rattle.plan_meaning.specs.declared.Slot.{Slot}
use Rattle.plan_waiting.specs.Waiting.{no_slot, Timed}
use Rattle.plan_ordering.specs.Keys.{keys_in}
use Rattle.plan_waiting.specs.Lent.{slot_in, slot_at, queue_in, begin_in, place_at, Kept, TimedWord}
use Rattle.plan_waiting.proofs.LentPlaces.{timed_place, mapped_at}

module _ (words objects : List ℕ) (n i : ℕ) (t : Timed (queue_in words objects n)) (h : i < n) where
  pub place_timed : {p : ℕ} → p ≡ place_at words i → TimedWord words p
  place_timed ep = rw ep (timed_place words n i (objects, t) h)

module _ (words objects : List ℕ) where
  -- the slots of the first k keys
  abbrev pub due_slots : ℕ → List Slot
  due_slots k = map (slot_at words objects) (keys_in words (begin_in words) k)

  module _ (n : ℕ) (h : Kept words objects n) (k : ℕ) (l : k ≤ n) where
    keys_long : length (keys_in words (begin_in words) k) ≡ k
    keys_long = length-take-le k (drop (begin_in words) words) (simp length-drop (omega (arith, h.inside.within, h.inside.sized)))

    pub due_long : length (due_slots k) ≡ k
    due_long = length-map (keys_in words (begin_in words) k) (slot_at words objects) ∙ keys_long

    pub due_there : (i : ℕ) → i < k → {p : ℕ} → p ≡ get_or words (begin_in words + i) 0 % 64 → get_or (due_slots k) i no_slot ≡ slot_in words objects p
    due_there i g ep =
        mapped_at (slot_at words objects) (keys_in words (begin_in words) k) i (omega (arith, keys_long))
        ∙ ap (slot_at words objects) (get_or-take k (drop (begin_in words) words) i 0 g ∙ get_or-drop (begin_in words) words i 0)
        ∙ ap (slot_in words objects) (sym ep)
