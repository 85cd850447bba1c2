-- A point that lies in numbers is stored in those numbers again. Assumes nothing.
use mathlib.Core.Path.{◌≡◌, refl}
use Prim.Native.Nat.{ℕ, zero, suc}
use mathlib.Core.Bool.{Bool, true, false}
use native.Mathlib.Omega.{arith}
use borrow.Author.Tests.{ne_eqb}
use Rattle.plan_meaning.specs.Promised.{duration_of}
use Rattle.plan_meaning.specs.Stored.{span_in, step_in, point_in, step_of, slot_of}
use Rattle.plan_meaning.specs.declared.Step.{Step}
use Rattle.plan_meaning.specs.declared.Slot.{Slot}

pub duration_back : (d : ℕ) → duration_of (span_in d) ≡ d
unfolding span_in
duration_back zero = refl
duration_back (suc d) = rw (ne_eqb (suc d) 0 (λ e. let y : ⊥ = omega (arith, e) in y))

pub step_back : (x : Step) → step_of (step_in x) ≡ x
unfolding step_in step_of
step_back x = rw (duration_back x.duration)

pub slot_back : (s : Slot) → slot_of (point_in s) ≡ s
unfolding point_in
slot_back s = by s.ends refl
  where
    by : (b : Bool) → s.ends ≡ b → slot_of (point_in s) ≡ s
    by true e = rw (e, step_back s.step)
    by false e = rw (e, step_back s.step)
