-- Conditions at a place of the code, by their first cell, and lists of them a step at a time. Assumes nothing.
use mathlib.Core.Path.{◌≡◌, refl}
use mathlib.Core.List.{List}
use mathlib.Core.Bool.{true, false}
use Prim.Native.Nat.{ℕ, zero, suc, ◌+◌, ◌-◌, ◌≤◌, ◌<◌}
use native.Mathlib.Omega.{arith}
use lib.Dec.{eqb}
use lib.ListN.{length}
use borrow.Author.Tests.{lt-ltb, le-ltb, ne_eqb}
use Rattle.domain_meaning.specs.Conditions.{Cond, all, none, cons}
use Rattle.domain_rows.specs.Held.{byte_at}
use Rattle.domain_stored_meaning.specs.Decode.{Decoded, decoded, mapped, both, no_cond, atom_at, same_at, compare_at, single_at, conds_at, cond_node, cond_at}

module _ (code : List ℕ) (at : ℕ) where
  -- ---- without parts

  module _ (tag : ℕ) where
    pub single_low : tag < 2 → single_at code at tag ≡ no_cond (at + 1)
    unfolding single_at
    single_low h = rw (lt-ltb tag 2 h)

    pub single_same : 2 ≤ tag → tag < 4 → single_at code at tag ≡ same_at code at (eqb tag 2)
    unfolding single_at
    single_same l h = rw (le-ltb tag 2 l, lt-ltb tag 4 h)

    pub single_atom : 4 ≤ tag → tag < 8 → single_at code at tag ≡ atom_at code at true (tag - 4)
    unfolding single_at
    single_atom l h = rw (le-ltb tag 2 (omega arith), le-ltb tag 4 l, lt-ltb tag 8 h)

    pub single_no_atom : 8 ≤ tag → tag < 12 → single_at code at tag ≡ atom_at code at false (tag - 8)
    unfolding single_at
    single_no_atom l h = rw (le-ltb tag 2 (omega arith), le-ltb tag 4 (omega arith), le-ltb tag 8 l, lt-ltb tag 12 h)

    pub single_compare : 12 ≤ tag → tag < 17 → single_at code at tag ≡ compare_at code at true (tag - 12)
    unfolding single_at
    single_compare l h = rw (le-ltb tag 2 (omega arith), le-ltb tag 4 (omega arith), le-ltb tag 8 (omega arith), le-ltb tag 12 l, lt-ltb tag 17 h)

    pub single_no_compare : 17 ≤ tag → tag < 22 → single_at code at tag ≡ compare_at code at false (tag - 17)
    unfolding single_at
    single_no_compare l h =
        rw (
          le-ltb tag 2 (omega arith),
          le-ltb tag 4 (omega arith),
          le-ltb tag 8 (omega arith),
          le-ltb tag 12 (omega arith),
          le-ltb tag 17 l,
          lt-ltb tag 22 h,
        )

    pub single_high : 22 ≤ tag → single_at code at tag ≡ no_cond (at + 1)
    unfolding single_at
    single_high h =
        rw (
          le-ltb tag 2 (omega arith),
          le-ltb tag 4 (omega arith),
          le-ltb tag 8 (omega arith),
          le-ltb tag 12 (omega arith),
          le-ltb tag 17 (omega arith),
          le-ltb tag 22 h,
        )

  -- ---- any condition

  pub cond_none : (d : ℕ) → d ≡ 0 → cond_at d code at ≡ no_cond at
  unfolding cond_at
  cond_none d h = rw h

  pub cond_past : (d : ℕ) → length code ≤ at → cond_at d code at ≡ no_cond at
  unfolding cond_at
  cond_past zero h = refl
  cond_past (suc d) h = rw (le-ltb at (length code) h)

  node : (d p : ℕ) → d ≡ suc p → at < length code → cond_at d code at ≡ cond_node (cond_at p code) code at (byte_at code at)
  unfolding cond_at
  node d p e h = rw (e, lt-ltb at (length code) h)

  module _ (d : ℕ) {tag : ℕ} (n : d ≡ 0 → ⊥) (h : at < length code) (t : tag ≡ byte_at code at) where
    by_tag : cond_at d code at ≡ cond_node (cond_at (d - 1) code) code at tag
    by_tag = let k : d ≡ suc (d - 1) = omega arith in rw t (node d (d - 1) k h)

    pub cond_group : tag ≡ 1 → cond_at d code at ≡ mapped all (conds_at (cond_at (d - 1) code) (length code) code (at + 1))
    unfolding cond_node
    cond_group e = rw (by_tag, e)

    pub cond_single : (tag ≡ 1 → ⊥) → cond_at d code at ≡ single_at code at tag
    unfolding cond_node
    cond_single e = rw (by_tag, ne_eqb tag 1 e)

-- ---- the conditions of an `and`, so many at most

module _ (f : ℕ → Decoded Cond) (code : List ℕ) (i : ℕ) where
  pub conds_spent : (left : ℕ) → left ≡ 0 → conds_at f left code i ≡ decoded none i
  unfolding conds_at
  conds_spent left h = rw h

  pub conds_out : (left : ℕ) → length code ≤ i → conds_at f left code i ≡ decoded none i
  unfolding conds_at
  conds_out zero h = refl
  conds_out (suc n) h = simp (le-ltb i (length code) h)

  pub conds_last : (left : ℕ) {tag : ℕ} → 0 < left → i < length code → tag ≡ byte_at code i → tag ≡ 0 → conds_at f left code i ≡ decoded none (i + 1)
  unfolding conds_at
  conds_last zero k h t z = absurd (omega arith)
  conds_last (suc n) k h t z = simp (lt-ltb i (length code) h, ← t, z)

  pub conds_step : (left : ℕ) {tag : ℕ} → 0 < left → i < length code → tag ≡ byte_at code i → (tag ≡ 0 → ⊥)
      → conds_at f left code i ≡ both cons (f i) (λ j. conds_at f (left - 1) code j)
  unfolding conds_at
  conds_step zero k h t z = absurd (omega arith)
  conds_step (suc n) {tag} k h t z = let m : suc n - 1 ≡ n = omega arith in simp (lt-ltb i (length code) h, ← t, ne_eqb tag 0 z, m)
