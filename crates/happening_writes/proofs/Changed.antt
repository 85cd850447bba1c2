-- One effect on a number: how far from 0 it is, and what is done to it. Assumes nothing.
use mathlib.Core.Path.{◌≡◌, refl, sym, ap, ◌∙◌}
use mathlib.Core.List.{List}
use mathlib.Core.Bool.{Bool, true, false, cond}
use Prim.Native.Nat.{ℕ, ◌-◌, ◌^◌, ◌<◌}
use native.Mathlib.Omega.{arith}
use lib.IntN.{ℤ}
use lib.Signed.{mag}
use Rattle.domain_meaning.specs.Effects.{Change, assign, raise, lower}
use Rattle.happening_meaning.specs.State.{inside, number_at, stored, defined}
use Rattle.happening_meaning.specs.declared.Value.{Value}
use Rattle.happening_meaning.specs.declared.Value.TheVariants as Is
use Rattle.happening_writes.specs.Rows.{how_of}
use Rattle.happening_writes.specs.Changing.{Bounded, change_in}

-- ---- a rise or a fall

abbrev is_number : Value → Bool
is_number (Is.Number z) = true
is_number Is.Undefined = false
is_number Is.Range = false

number_inside : (t : Bool) (w z : ℤ) → cond t (Is.Number w) Is.Undefined ≡ Is.Number z → t ≡ true
number_inside true w z e = refl
number_inside false w z e = ap is_number e

stored_inside : (old : List ℤ) (x : ℕ) {v : Value} {z : ℤ} → v ≡ stored old x → v ≡ Is.Number z → inside (number_at old x) ≡ true
unfolding defined
stored_inside old x {v} {z} e n = number_inside (inside (number_at old x)) (number_at old x) z (sym e ∙ n)

pub shift_small : (old ns : List ℤ) (x : ℕ) {v : Value} → v ≡ stored old x → {u y y₀ : ℤ} → v ≡ Is.Number u → y ≡ number_at ns x → y₀ ≡ y
    → Bounded (2 ^ 61 - 1) old ns → mag y₀ < 2 ^ 61
shift_small old ns x e n g g₀ b = let q = b x (stored_inside old x e n) in rw (g₀, g) (omega (arith, q))

-- ---- one effect, by the code's word for what is done

pub change_same : (c : Change) → change_in (how_of c) ≡ c
change_same assign = refl
change_same raise = refl
change_same lower = refl
