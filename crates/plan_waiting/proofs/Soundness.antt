-- A sound step in its parts, and sound points by their places. Assumes nothing.
use Prim.Native.Nat.{ℕ, zero, suc, ◌≤◌, ◌<◌}
use mathlib.Core.Bool.{Bool, true, false}
use mathlib.Core.List.{List, [], ◌∷◌, ◌++◌}
use mathlib.Core.Path.{◌≡◌, refl}
use native.Mathlib.Omega.{arith}
use borrow.Author.Tests.{ltb-true, lt-ltb}
use lib.Dec.{ltb}
use lib.ListN.{length, take, get_or}
use lib.Seq.{get_or-take, length-take-le}
use Rattle.base_laws.proofs.Splits.{and_left, and_right, and_three}
use Rattle.plan_meaning.specs.Lists.{keep}
use Rattle.plan_meaning.specs.declared.Step.{Step}
use Rattle.plan_meaning.specs.declared.Slot.{Slot}
use Rattle.plan_waiting.specs.declared.Queue.{Queue}
use Rattle.plan_waiting.specs.Waiting.{no_slot, sound_step, sound_all, TimedStep, Timed}

-- ---- a step

module _ (n : ℕ) (x : Step) where
  sound_parts : sound_step n x ≡ true → (ltb x.action n ≡ true) × (ltb x.start 1000000000000 ≡ true) × (ltb x.duration 1000000000000 ≡ true)
  unfolding sound_step
  sound_parts h = and_three (ltb x.action n) (ltb x.start 1000000000000) (ltb x.duration 1000000000000) h

  pub sound_action : sound_step n x ≡ true → x.action < n
  sound_action h = ltb-true x.action n (sound_parts h).0

  pub sound_start : sound_step n x ≡ true → x.start < 1000000000000
  sound_start h = ltb-true x.start 1000000000000 (sound_parts h).1

  pub sound_duration : sound_step n x ≡ true → x.duration < 1000000000000
  sound_duration h = ltb-true x.duration 1000000000000 (sound_parts h).2

  pub sound_step_of : x.action < n → x.start < 1000000000000 → x.duration < 1000000000000 → sound_step n x ≡ true
  unfolding sound_step
  sound_step_of a s d = rw (lt-ltb x.action n a, lt-ltb x.start 1000000000000 s, lt-ltb x.duration 1000000000000 d)

-- ---- points

pub sound_at : (n i : ℕ) (l : List Slot) → sound_all n l ≡ true → i < length l → sound_step n (get_or l i no_slot).step ≡ true
unfolding sound_all
sound_at n zero [] h k = absurd (let y : ⊥ = omega arith in y)
sound_at n zero (s ∷ ss) h k = and_left (sound_step n s.step) (sound_all n ss) h
sound_at n (suc i) [] h k = absurd (let y : ⊥ = omega arith in y)
sound_at n (suc i) (s ∷ ss) h k = sound_at n i ss (and_right (sound_step n s.step) (sound_all n ss) h) (omega arith)

module _ (n : ℕ) where
  pub sound_append : (l m : List Slot) → sound_all n l ≡ true → sound_all n m ≡ true → sound_all n (l ++ m) ≡ true
  unfolding sound_all
  sound_append [] m h k = k
  sound_append (s ∷ ss) m h k = rw (
    and_left (sound_step n s.step) (sound_all n ss) h,
    sound_append ss m (and_right (sound_step n s.step) (sound_all n ss) h) k,
  )

  pub sound_snoc : (l : List Slot) (s : Slot) → sound_all n l ≡ true → sound_step n s.step ≡ true → sound_all n (l ++ s ∷ []) ≡ true
  unfolding sound_all
  sound_snoc l s h k = sound_append l (s ∷ []) h (rw k)

  pub sound_keep : (f : Slot → Bool) (l : List Slot) → sound_all n l ≡ true → sound_all n (keep f l) ≡ true
  unfolding sound_all
  sound_keep f [] h = refl
  sound_keep f (s ∷ ss) h = go (f s) refl (sound_keep f ss (and_right (sound_step n s.step) (sound_all n ss) h))
    where
      go : (b : Bool) → f s ≡ b → sound_all n (keep f ss) ≡ true → sound_all n (keep f (s ∷ ss)) ≡ true
      go true e ih = rw (e, and_left (sound_step n s.step) (sound_all n ss) h, ih)
      go false e ih = rw (e, ih)

-- ---- points by their places

module _ (n : ℕ) (l : List Slot) (i m : ℕ) (k : i < m) (h : m ≤ length l) where
  sound_within : sound_all n (take m l) ≡ true → sound_step n (get_or l i no_slot).step ≡ true
  sound_within s = rw (← get_or-take m l i no_slot k) (sound_at n i (take m l) s (omega (arith, length-take-le m l h)))

-- a place in use of a queue whose times are known
pub timed_at : (q : Queue) (i : ℕ) → length q.slots ≡ 64 → Timed q → i < q.count → TimedStep (get_or q.slots i no_slot).step
timed_at q i g t k = let few = t.1.0 in (t.0, sound_within t.0 q.slots i q.count k (omega arith) t.1.1)
