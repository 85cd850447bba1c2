-- Numbers of the range lie near 0, and every value that is computed or stored is one of the range or none. Assumes nothing.
use mathlib.Core.Path.{◌≡◌, refl}
use mathlib.Core.List.{List}
use mathlib.Core.Bool.{Bool, true, false, cond}
use Prim.Native.Nat.{ℕ, ◌≤◌, ◌<◌, ◌^◌}
use native.Mathlib.Omega.{arith}
use lib.IntN.{ℤ, pos, negsuc, neg_ℤ, ◌+ℤ◌, ◌-ℤ◌}
use lib.Signed.{mag, le_z}
use borrow.Author.Tests.{leb-true}
use Rattle.base_laws.proofs.Splits.{and_left, and_right}
use Rattle.happening_meaning.specs.State.{inside, within, defined, stored, number_at, plus_of, less_of, minus_of}
use Rattle.happening_meaning.specs.declared.Value.{Value}
use Rattle.happening_meaning.specs.declared.Value.TheVariants.{Number, Undefined, Range}
use Rattle.happening_amounts.specs.Ranged.{Ranged}

pub inside_le : (z : ℤ) → inside z ≡ true → mag z ≤ 1000000000000
unfolding inside
inside_le (pos n) h = leb-true n 1000000000000 (and_left (le_z (pos n) (pos 1000000000000)) (le_z (negsuc 999999999999) (pos n)) h)
inside_le (negsuc n) h = omega (arith, leb-true n 999999999999 (and_right (le_z (negsuc n) (pos 1000000000000)) (le_z (negsuc 999999999999) (negsuc n)) h))

pub inside_mag : (z : ℤ) → inside z ≡ true → mag z < 2 ^ 61
inside_mag z h = omega (arith, inside_le z h)

-- ---- values of the range

number_or : (t : Bool) (z : ℤ) (v : Value) → inside z ≡ t → Ranged v → Ranged (cond t (Number z) v)
unfolding Ranged
number_or true z v e r = e
number_or false z v e r = r

pub ranged_within : (z : ℤ) → Ranged (within z)
unfolding within Ranged
ranged_within z = number_or (inside z) z Range refl tt

pub ranged_defined : (z : ℤ) → Ranged (defined z)
unfolding defined Ranged
ranged_defined z = number_or (inside z) z Undefined refl tt

pub ranged_stored : (ns : List ℤ) (i : ℕ) → Ranged (stored ns i)
ranged_stored ns i = ranged_defined (number_at ns i)

pub ranged_plus : (a b : Value) → Ranged (plus_of a b)
unfolding plus_of Ranged
ranged_plus (Number x) (Number y) = ranged_within (x +ℤ y)
ranged_plus (Number x) Undefined = tt
ranged_plus (Number x) Range = tt
ranged_plus Undefined b = tt
ranged_plus Range b = tt

pub ranged_minus : (a : Value) → Ranged (minus_of a)
unfolding Ranged
ranged_minus (Number x) = ranged_within (neg_ℤ x)
ranged_minus Undefined = tt
ranged_minus Range = tt

pub ranged_less : (a b : Value) → Ranged (less_of a b)
unfolding less_of Ranged
ranged_less (Number x) (Number y) = ranged_within (x -ℤ y)
ranged_less (Number x) Undefined = tt
ranged_less (Number x) Range = tt
ranged_less Undefined b = tt
ranged_less Range b = tt

ranged_inside : (v : Value) (x : ℤ) → Ranged v → v ≡ Number x → inside x ≡ true
unfolding Ranged
ranged_inside v x r e = rw e at r

pub ranged_mag : (v : Value) (x : ℤ) {y : ℤ} → Ranged v → v ≡ Number x → y ≡ x → mag y < 2 ^ 61
ranged_mag v x r e d = rw d (inside_mag x (ranged_inside v x r e))
