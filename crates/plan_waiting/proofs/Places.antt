-- The places of a queue: those of a list, one filled more, and zeros after them. Assumes nothing.
use Prim.Native.Nat.{ℕ, suc, ◌+◌, ◌-◌, ◌≤◌, ◌<◌}
use mathlib.Core.Bool.{true, false}
use mathlib.Core.List.{List, [], ◌++◌, map, append-nil}
use mathlib.Core.Path.{◌≡◌, refl, sym, ◌∙◌}
use native.Mathlib.Numerals.{add-one}
use native.Mathlib.Omega.{arith}
use lib.ListN.{length, take, drop, get_or, set, replicate, length-map, length-take, length-drop, drop_of_length-le}
use borrow.Rule.Slice.PartMut.{put_mid}
use lib.Seq.{take-suc, take-append_seam, length-take-le, set_at, append_snoc}
use Rattle.plan_meaning.specs.declared.Slot.{Slot}
use Rattle.plan_waiting.specs.declared.Queue.{Queue}
use Rattle.plan_waiting.specs.Waiting.{used, no_slot, queue_of, sound_all, Sound}

-- what owning an array of structs tells of its list
pub length_mapped : (X Y : Type 0) (f : X → Y) (l : List X) (n : ℕ) → length (map f l) ≡ n → length l ≡ n
length_mapped X Y f l n e = sym (length-map l f) ∙ e

-- ---- the queue of a list

pub queue_waits : (l : List Slot) → length l ≤ 64 → used (queue_of l) ≡ l
unfolding queue_of
queue_waits l h = take-append_seam l (replicate (64 - length l) no_slot)

pub queue_count : (l : List Slot) → (queue_of l).count ≡ length l
unfolding queue_of
queue_count l = refl

pub sound_queue : (n : ℕ) (l : List Slot) → sound_all n l ≡ true → length l ≤ 64 → Sound n (queue_of l)
sound_queue n l h k = rw (queue_waits l k, queue_count l) (k, h)

-- what the derived default ensures of a slot
pub zero_slot : (s : Slot)
    → ((s.step.line ≡ 0) × ((s.step.start ≡ 0) × ((s.step.duration ≡ 0) × ((s.step.action ≡ 0) × ((s.step.a ≡ 0) × ((s.step.b ≡ 0) × ((s.step.c ≡ 0)
    × ((s.step.d ≡ 0) × (s.step.width ≡ 0))))))))) × (s.ends ≡ false)
    → s ≡ no_slot
zero_slot s ((l, (t, (n, (x, (a, (b, (c, (d, w)))))))), e) =
    λ i. record {
      step = record { line = l i; start = t i; duration = n i; action = x i; a = a i; b = b i; c = c i; d = d i; width = w i };
      ends = e i;
    }

-- the places after the first n filled
pub filled_is : (l rest : List Slot) (n : ℕ) (s : Slot) → length l ≡ 64 → n ≤ 64 → s ≡ no_slot → rest ≡ replicate (length (take (length l - n) (drop n l))) s
    → ◌≡◌ {A = Queue} (record { slots = put_mid n (length l - n) l rest; count = n }) (queue_of (take n l))
unfolding queue_of
filled_is l rest n s g h e f =
    let long : length (take (length l - n) (drop n l)) ≡ 64 - n = simp (length-take, length-drop) (omega arith) in
    let none : drop (length l - n) (drop n l) ≡ [] = drop_of_length-le (drop n l) (simp length-drop (omega arith)) in
    let first : length (take n l) ≡ n = length-take-le n l (omega arith) in
    rw (f, long, e, none, append-nil, first)

-- ---- a place filled

-- the first i places of l, and zeros after them
abbrev pub cleaned : List Slot → ℕ → List Slot
cleaned l i = take i l ++ replicate (64 - i) no_slot

pub clean_more : (l : List Slot) (i : ℕ) → i < length l → i < 64 → set (cleaned l i) i (get_or l i no_slot) ≡ cleaned l (i + 1)
clean_more l i h k =
    let r : 64 - i ≡ suc (64 - (i + 1)) = omega arith in
    rw (
      r,
      set_at (take i l) no_slot (replicate (64 - (i + 1)) no_slot) (get_or l i no_slot) i (length-take-le i l (omega arith)),
      add-one i,
      take-suc l i no_slot h,
      append_snoc,
    )

pub cleaned_is : (l : List Slot) (n : ℕ) → n ≤ length l → ◌≡◌ {A = Queue} (record { slots = cleaned l n; count = n }) (queue_of (take n l))
unfolding queue_of
cleaned_is l n h = rw (length-take-le n l h)
