-- Numbers from any cells, in their shortest form. Assumes nothing.
use mathlib.Core.Path.{◌≡◌, refl, sym, ◌∙◌}
use mathlib.Core.List.{List}
use mathlib.Core.Bool.{Bool, true, false, cond}
use Prim.Native.Nat.{ℕ, zero, suc, ◌+◌, ◌-◌, ◌*◌, ◌/◌, ◌%◌, ◌≤◌, ◌<◌}
use native.Mathlib.Omega.{arith}
use native.Mathlib.Numerals.{add-one}
use lib.Dec.{eqb}
use lib.IntN.{ℤ, pos, nat_abs, ◌-ℤ◌}
use lib.ListN.{set}
use lib.Seq.{sets}
use borrow.Author.Tests.{lt-ltb, le-ltb, ne_eqb}
use Rattle.domain_literals.specs.Literal.{sign_base, size_of, bytes_of, literal, number_cells}
use Rattle.domain_literals.proofs.Cells.{literal_length, cells_whole, cells_fine}
use Rattle.domain_stored_meaning.specs.Decode.{little_at, number_at}
use Rattle.domain_forms.specs.Stored.{Stored}

pub literal_stored : (l : List ℕ) (u base v : ℕ) {k : ℕ} {l' l'' : List ℕ} → k ≡ size_of v → l' ≡ set l u (base + k) → l'' ≡ sets l' (u + 1) (bytes_of k v)
    → Stored l u (literal base v) l'' (u + 1 + k)
literal_stored l u base v {k} e a b =
    record {
      are = b ∙ (rw (a, e, add-one u));
      free = let n = literal_length base v in omega (arith, e);
    }

-- ---- the value after a first cell: m with a sign

turned : (m : ℕ) → nat_abs (pos 0 -ℤ pos m) ≡ m
turned zero = refl
turned (suc m) = rw (lt-ltb 0 (suc m) (omega arith)) (omega arith)

turned_sign : (m : ℕ) → sign_base (pos 0 -ℤ pos m) ≡ cond (eqb m 0) 16 24
unfolding sign_base
turned_sign zero = refl
turned_sign (suc m) = rw (lt-ltb 0 (suc m) (omega arith), ne_eqb (suc m) 0 (λ e. let z : ⊥ = omega arith in z))

-- what the number's first cell says of its sign
abbrev sign_of : Bool → ℕ → ℕ
sign_of negative v = cond negative (cond (eqb v 0) 16 24) 16

abs_of : (b : Bool) (m : ℕ) → nat_abs (cond b (pos 0 -ℤ pos m) (pos m)) ≡ m
abs_of true m = turned m
abs_of false m = refl

sign_of_lem : (b : Bool) (m : ℕ) → sign_base (cond b (pos 0 -ℤ pos m) (pos m)) ≡ sign_of b m
unfolding sign_base
sign_of_lem true m = turned_sign m
sign_of_lem false m = rw (le-ltb m 0 (omega arith))

-- ---- the shortest form of m with a sign

module _ (b : Bool) (m : ℕ) where
  abbrev signed : ℤ
  signed = cond b (pos 0 -ℤ pos m) (pos m)

  cells_of_wholes : m % 1000 ≡ 0 → number_cells signed ≡ literal (sign_of b m + 16) (m / 1000)
  cells_of_wholes h = cells_whole signed (rw (abs_of b m) h) ∙ rw (sign_of_lem b m, abs_of b m)

  cells_of_fine : (m % 1000 ≡ 0 → ⊥) → number_cells signed ≡ literal (sign_of b m) m
  cells_of_fine h = cells_fine signed (rw (abs_of b m) h) ∙ rw (sign_of_lem b m, abs_of b m)

-- a thousand times as much is as much 0
thousandfold : (b : Bool) (v : ℕ) → sign_of b (v * 1000) ≡ sign_of b v
thousandfold false v = refl
thousandfold true zero = refl
thousandfold true (suc v) = rw (ne_eqb (suc v * 1000) 0 (λ e. let z : ⊥ = omega arith in z), ne_eqb (suc v) 0 (λ e. let z : ⊥ = omega arith in z))

module _ (code : List ℕ) (at tag : ℕ) {t v s : ℕ} (et : t ≡ tag - 16) (ev : v ≡ little_at code at (t % 8)) (es : s ≡ sign_of (eqb (t / 8 % 2) 1) v) where
  pub number_whole : 15 < t → literal (s + 16) v ≡ number_cells (number_at code at tag)
  unfolding number_at
  number_whole h =
      let q : v * 1000 / 1000 ≡ v = omega arith in
      let r : v * 1000 % 1000 ≡ 0 = omega arith in
      rw (← et, lt-ltb 15 t h, ← ev, es)
      (sym (cells_of_wholes (eqb (t / 8 % 2) 1) (v * 1000) r ∙ rw (thousandfold (eqb (t / 8 % 2) 1) v, q)))

  pub number_thousands : t ≤ 15 → v % 1000 ≡ 0 → literal (s + 16) (v / 1000) ≡ number_cells (number_at code at tag)
  unfolding number_at
  number_thousands h z = rw (← et, le-ltb 15 t h, ← ev, es) (sym (cells_of_wholes (eqb (t / 8 % 2) 1) v z))

  pub number_fine : t ≤ 15 → (v % 1000 ≡ 0 → ⊥) → literal s v ≡ number_cells (number_at code at tag)
  unfolding number_at
  number_fine h z = rw (← et, le-ltb 15 t h, ← ev, es) (sym (cells_of_fine (eqb (t / 8 % 2) 1) v z))
