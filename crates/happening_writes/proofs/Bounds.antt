-- How far exact sums lie from 0: where the old number is defined, an effect moves the new one by at most a million million. Assumes nothing.
use mathlib.Core.Path.{◌≡◌, refl, ap, subst}
use mathlib.Core.List.{List, [], ◌∷◌}
use mathlib.Core.Bool.{Bool, true, false, cond}
use Prim.Native.Nat.{ℕ, zero, suc, ◌+◌, ◌-◌, ◌*◌, ◌^◌, ◌≤◌}
use native.Mathlib.Omega.{arith}
use lib.Dec.{ltb}
use lib.IntN.{ℤ, pos, negsuc, neg_ℤ, nat_abs, ◌+ℤ◌}
use lib.ListN.{length, get_or, set}
use lib.Signed.{mag, le_z}
use borrow.Author.Tests.{leb-true}
use Rattle.base_laws.proofs.Splits.{and_left, and_right, either}
use Rattle.domain_meaning.specs.Effects.{Change, assign, raise, lower, Effect, becomes, changes}
use Rattle.domain_meaning.specs.First.{undefined}
use Rattle.happening_meaning.specs.State.{Grounds, inside, number_at, number_of}
use Rattle.happening_meaning.specs.Truths.{value_of}
use Rattle.happening_meaning.specs.Happening.{Made, made, is_done, on_needed, needed, new_number, set_number, change_one, change_all}
use Rattle.happening_meaning.specs.declared.Value.{Value}
use Rattle.happening_meaning.specs.declared.Value.TheVariants as Is
use Rattle.happening_meaning.specs.declared.Outcome.TheVariants.{Done}
use Rattle.happening_amounts.specs.Ranged.{Ranged}
use Rattle.happening_amounts.proofs.Ranges.{inside_le}
use Rattle.happening_expressions.proofs.Ranging.{value_ranged}
use Rattle.happening_writes.specs.Changing.{Bounded, Room, change_by}

-- ---- one sum

abs_le : (z : ℤ) → inside z ≡ true → nat_abs z ≤ 1000000000000
unfolding inside
abs_le (pos n) h = leb-true n 1000000000000 (and_left (le_z (pos n) (pos 1000000000000)) (le_z (negsuc 999999999999) (pos n)) h)
abs_le (negsuc n) h = omega (arith, leb-true n 999999999999 (and_right (le_z (negsuc n) (pos 1000000000000)) (le_z (negsuc 999999999999) (negsuc n)) h))

pick : (t : Bool) (x y k : ℕ) → x ≤ k → y ≤ k → mag (cond t (negsuc x) (pos y)) ≤ k
pick true x y k h l = h
pick false x y k h l = l

mag_more : (a z : ℤ) (m k : ℕ) → mag a ≤ m → nat_abs z ≤ k → mag (a +ℤ z) ≤ m + k
mag_more (pos a) (pos z) m k h l = omega arith
mag_more (pos a) (negsuc z) m k h l = pick (ltb a (suc z)) (suc z - suc a) (a - suc z) (m + k) (omega arith) (omega arith)
mag_more (negsuc a) (pos z) m k h l = pick (ltb z (suc a)) (suc a - suc z) (z - suc a) (m + k) (omega arith) (omega arith)
mag_more (negsuc a) (negsuc z) m k h l = omega arith

abs_neg : (z : ℤ) → nat_abs (neg_ℤ z) ≡ nat_abs z
abs_neg (pos zero) = refl
abs_neg (pos (suc n)) = refl
abs_neg (negsuc n) = refl

mag_new : (how : Change) (a z : ℤ) (m : ℕ) → mag a ≤ m → inside z ≡ true → mag (new_number how a z) ≤ m + 1000000000000
mag_new assign a z m h i = omega (arith, inside_le z i)
mag_new raise a z m h i = mag_more a z m 1000000000000 h (abs_le z i)
mag_new lower a z m h i = mag_more a (neg_ℤ z) m 1000000000000 h (omega (arith, abs_neg z, abs_le z i))

-- ---- one effect

-- what is read after a store: what was there, or what was stored
pub read_set : (P : ℤ → Type 0) (ns : List ℤ) (x i : ℕ) (y d : ℤ) → P (get_or ns i d) → (i ≡ x → P y) → P (get_or (set ns x y) i d)
read_set P [] x i y d p q = p
read_set P (z ∷ ns) zero zero y d p q = q refl
read_set P (z ∷ ns) zero (suc i) y d p q = p
read_set P (z ∷ ns) (suc x) zero y d p q = p
read_set P (z ∷ ns) (suc x) (suc i) y d p q = read_set P ns x i y d p (λ e. q (ap suc e))

pub bounded_wider : (m k : ℕ) (old ns : List ℤ) → m ≤ k → Bounded m old ns → Bounded k old ns
bounded_wider m k old ns h b x d = omega (arith, b x d)

bounded_set : (m k : ℕ) (old ns : List ℤ) (x : ℕ) (y : ℤ) → m ≤ k → Bounded m old ns → (inside (number_at old x) ≡ true → mag y ≤ k) → Bounded k old (set ns x y)
unfolding number_at
bounded_set m k old ns x y l b h i d =
    read_set (λ (z : ℤ). mag z ≤ k) ns x i y undefined (omega (arith, b i d)) (λ e. h (subst (λ (j : ℕ). inside (get_or old j undefined) ≡ true) e d))

bounded_needed : (m l : ℕ) (old ns : List ℤ) (how : Change) (x : ℕ) (v w : Value) → Ranged v → Bounded m old ns
    → Bounded (m + 1000000000000) old (on_needed l ns v (λ z. on_needed l ns w (λ _. made Done (set_number how ns x z)))).numbers
unfolding Ranged
bounded_needed m l old ns how x (Is.Number z) (Is.Number u) r b =
    bounded_set m (m + 1000000000000) old ns x (new_number how (number_at ns x) z) (omega arith) b (λ d. mag_new how (number_at ns x) z m (b x d) r)
bounded_needed m l old ns how x (Is.Number z) Is.Undefined r b = bounded_wider m (m + 1000000000000) old ns (omega arith) b
bounded_needed m l old ns how x (Is.Number z) Is.Range r b = bounded_wider m (m + 1000000000000) old ns (omega arith) b
bounded_needed m l old ns how x Is.Undefined w r b = bounded_wider m (m + 1000000000000) old ns (omega arith) b
bounded_needed m l old ns how x Is.Range w r b = bounded_wider m (m + 1000000000000) old ns (omega arith) b

bounded_step : (m l : ℕ) (old ns : List ℤ) (how : Change) (x : ℕ) (v : Value) → Ranged v → Bounded m old ns
    → Bounded (m + 1000000000000) old (change_by l old ns how x v).numbers
unfolding change_by
bounded_step m l old ns how x v r b = bounded_needed m l old ns how x v (needed how old x) r b

-- ---- the effects of a point

module _ (g : Grounds) (old : List ℤ) (l : ℕ) (os : List ℕ) where
  bounded_one : (m : ℕ) (ns : List ℤ) (e : Effect) → Bounded m old ns → Bounded (m + 1000000000000) old (change_one g old l os ns e).numbers
  unfolding change_one
  bounded_one m ns (becomes yes' r) b = bounded_wider m (m + 1000000000000) old ns (omega arith) b
  bounded_one m ns (changes how r e) b =
      bounded_needed m l old ns how (number_of g os r) (value_of g old os e) (needed how old (number_of g os r)) (value_ranged g old os e) b

  pub bounded_all : (m : ℕ) (ns : List ℤ) (es : List Effect) → Bounded m old ns
      → Bounded (m + 1000000000000 * length es) old (change_all g old l os ns es).numbers
  unfolding change_all
  bounded_all m ns [] b = bounded_wider m (m + 1000000000000 * 0) old ns (omega arith) b
  bounded_all m ns (e ∷ es) b =
      let k = m + 1000000000000 * suc (length es) in
      let one = change_one g old l os ns e in
      let all = change_all g old l os one.numbers es in
      either (λ (x : Made). Bounded k old x.numbers) (is_done one.outcome)
      (bounded_wider (m + 1000000000000 + 1000000000000 * length es) k old all.numbers (omega arith)
      (bounded_all (m + 1000000000000) one.numbers es (bounded_one m ns e b)))
      (bounded_wider (m + 1000000000000) k old one.numbers (omega arith) (bounded_one m ns e b))

  -- ---- room for so many effects

  pub room_all : (a b : ℕ) (ns : List ℤ) (es : List Effect) → length es ≤ a → Room (a + b) old ns → Room b old (change_all g old l os ns es).numbers
  room_all a b ns es h r =
      let q = r.2 in
      (r.0 + 1000000000000 * length es, bounded_all r.0 ns es r.1, omega arith)

pub room_less : (n k : ℕ) (old ns : List ℤ) → k ≤ n → Room n old ns → Room k old ns
room_less n k old ns h r = let q = r.2 in (r.0, r.1, omega arith)

-- 2,097,152 effects at one time, from the old numbers
pub room_start : (n : ℕ) (old : List ℤ) → n ≤ 2097152 → Room n old old
room_start n old h = (1000000000000, λ x d. inside_le (number_at old x) d, omega arith)

pub room_bound : (n : ℕ) (old ns : List ℤ) → Room n old ns → Bounded (2 ^ 61 - 1) old ns
room_bound n old ns r = let q = r.2 in bounded_wider r.0 (2 ^ 61 - 1) old ns (omega arith) r.1

pub room_step : (n l : ℕ) (old ns : List ℤ) (how : Change) (x : ℕ) (v : Value) → Ranged v → Room (suc n) old ns
    → Room n old (change_by l old ns how x v).numbers
room_step n l old ns how x v t r = let q = r.2 in (r.0 + 1000000000000, bounded_step r.0 l old ns how x v t r.1, omega arith)
