-- A single condition at a place of the rows, by its first byte, as it is taken apart. Assumes nothing.
use mathlib.Core.Path.{◌≡◌, refl, ap}
use mathlib.Core.List.{List}
use mathlib.Core.Bool.{Bool, true, false, cond}
use Rattle.std.proofs.Common.{Option, Some, None}
use Prim.Native.Nat.{ℕ, zero, suc, ◌+◌, ◌-◌, ◌≤◌, ◌<◌}
use native.Mathlib.Omega.{arith}
use lib.Dec.{ltb, eqb}
use lib.ListN.{length}
use borrow.Author.Tests.{lt-ltb, le-ltb}
use Rattle.domain_meaning.specs.Conditions.{Cond, Comparison}
use Rattle.domain_meaning.specs.Conditions as C
use Rattle.domain_rows.specs.Held.{byte_at}
use Rattle.domain_stored_meaning.specs.Cells.{comparison_cell}
use Rattle.domain_stored_meaning.specs.Decode.{Decoded, comparison_of}
use Rattle.domain_prepared_meaning.specs.Forms.{index_by}
use Rattle.domain_prepared_meaning.specs.Decode.{form_at, begins_test, same_at, atom_at, compare_at, test_at}
use Rattle.happening_forms.proofs.Placing.{fact_at_lem}
use Rattle.happening_tests.specs.Taken.{row_of, row_at}
use Rattle.happening_tests.specs.declared.taken.Row.{Row}
use Rattle.happening_tests.specs.declared.taken.Row.TheVariants.{Fact, Compare}

-- ---- which comparison

pub kept : (op : Comparison) → comparison_of (comparison_cell op) ≡ op
unfolding comparison_of
kept C.equal = refl
kept C.less = refl
kept C.at_most = refl
kept C.more = refl
kept C.at_least = refl

celled : (op : ℕ) → op < 5 → op ≡ comparison_cell (comparison_of op)
unfolding comparison_of
celled zero h = refl
celled (suc zero) h = refl
celled (suc (suc zero)) h = refl
celled (suc (suc (suc zero))) h = refl
celled (suc (suc (suc (suc zero)))) h = refl
celled (suc (suc (suc (suc (suc n))))) h = absurd (omega arith)

-- ---- by the first byte

pick : (P : Decoded Cond → Type 0) (t : Bool) (x y : Decoded Cond) → P x → P y → P (cond t x y)
pick P true x y a b = a
pick P false x y a b = b

module _ (rows : List ℕ) (at tag : ℕ) where
  -- what holds of every equality, fact and comparison holds of what stands here
  pub by_tag : (P : Decoded Cond → Type 0) → ((w : Bool) → P (same_at rows at w)) → ((w : Bool) (v : ℕ) → P (atom_at rows at w v))
      → ((w : Bool) (op : ℕ) → P (compare_at rows at w op)) → P (test_at rows at tag)
  unfolding test_at
  by_tag P s a c =
      pick P (ltb tag 4) (same_at rows at (eqb tag 2)) _ (s (eqb tag 2))
      (pick P (ltb tag 8) (atom_at rows at true (tag - 4)) _ (a true (tag - 4))
      (pick P (ltb tag 12) (atom_at rows at false (tag - 8)) _ (a false (tag - 8))
      (pick P (ltb tag 17) (compare_at rows at true (tag - 12)) (compare_at rows at false (tag - 17)) (c true (tag - 12)) (c false (tag - 17)))))

  test_same : tag < 4 → test_at rows at tag ≡ same_at rows at (eqb tag 2)
  unfolding test_at
  test_same h = rw (lt-ltb tag 4 h)

  test_fact : 4 ≤ tag → tag < 8 → test_at rows at tag ≡ atom_at rows at true (tag - 4)
  unfolding test_at
  test_fact l h = rw (le-ltb tag 4 l, lt-ltb tag 8 h)

  test_no_fact : 8 ≤ tag → tag < 12 → test_at rows at tag ≡ atom_at rows at false (tag - 8)
  unfolding test_at
  test_no_fact l h = rw (le-ltb tag 4 (omega arith), le-ltb tag 8 l, lt-ltb tag 12 h)

  test_compare : 12 ≤ tag → tag < 17 → test_at rows at tag ≡ compare_at rows at true (tag - 12)
  unfolding test_at
  test_compare l h = rw (le-ltb tag 4 (omega arith), le-ltb tag 8 (omega arith), le-ltb tag 12 l, lt-ltb tag 17 h)

  test_no_compare : 17 ≤ tag → test_at rows at tag ≡ compare_at rows at false (tag - 17)
  unfolding test_at
  test_no_compare l = rw (le-ltb tag 4 (omega arith), le-ltb tag 8 (omega arith), le-ltb tag 12 (omega arith), le-ltb tag 17 l)

-- ---- taken apart

module _ (rows os : List ℕ) (at : ℕ) where
  pub fact_way : (w : Bool) (v : ℕ) {i : ℕ} → i ≡ index_by (form_at rows (at + 1) v) os
      → Some (Fact w i (at + 3 + v)) ≡ row_of os (at + 1) (atom_at rows at w v)
  fact_way w v e = rw (fact_at_lem os (form_at rows (at + 1) v) e)

  pub row_past : length rows ≤ at → None ≡ row_at rows os at
  unfolding row_at
  row_past h = rw (le-ltb at (length rows) h)

  module _ {tag : ℕ} (h : at < length rows) (e : tag ≡ byte_at rows at) where
    pub row_low : tag < 2 → None ≡ row_at rows os at
    unfolding row_at begins_test
    row_low l = rw (lt-ltb at (length rows) h, ← e, lt-ltb tag 2 l)

    pub row_high : 22 ≤ tag → None ≡ row_at rows os at
    unfolding row_at begins_test
    row_high l = rw (lt-ltb at (length rows) h, ← e, le-ltb tag 2 (omega arith), le-ltb tag 22 l)

    begun : 2 ≤ tag → tag < 22 → row_at rows os at ≡ row_of os (at + 1) (test_at rows at tag)
    unfolding row_at begins_test
    begun l u = rw (lt-ltb at (length rows) h, ← e, le-ltb tag 2 l, lt-ltb tag 22 u)

    as_taken : {r : Option Row} (d : Decoded Cond) → 2 ≤ tag → tag < 22 → test_at rows at tag ≡ d → r ≡ row_of os (at + 1) d → r ≡ row_at rows os at
    as_taken d l u t r = rw (begun l u, t) r

    pub row_same : {r : Row} → 2 ≤ tag → tag < 4 → Some r ≡ row_of os (at + 1) (same_at rows at (eqb tag 2)) → Some r ≡ row_at rows os at
    row_same l u r = as_taken _ l (omega arith) (test_same rows at tag u) r

    pub row_fact : {r : Row} → 4 ≤ tag → tag < 8 → Some r ≡ row_of os (at + 1) (atom_at rows at true (tag - 4)) → Some r ≡ row_at rows os at
    row_fact l u r = as_taken _ (omega arith) (omega arith) (test_fact rows at tag l u) r

    pub row_no_fact : {r : Row} → 8 ≤ tag → tag < 12 → Some r ≡ row_of os (at + 1) (atom_at rows at false (tag - 8)) → Some r ≡ row_at rows os at
    row_no_fact l u r = as_taken _ (omega arith) (omega arith) (test_no_fact rows at tag l u) r

    pub row_compare : 12 ≤ tag → tag < 17 → Some (Compare true (tag - 12) (at + 1)) ≡ row_at rows os at
    row_compare l u =
        as_taken _ (omega arith) (omega arith) (test_compare rows at tag l u)
        (ap (λ (n : ℕ). Some (Compare true n (at + 1))) (celled (tag - 12) (omega arith)))

    pub row_no_compare : 17 ≤ tag → tag < 22 → Some (Compare false (tag - 17) (at + 1)) ≡ row_at rows os at
    row_no_compare l u =
        as_taken _ (omega arith) u (test_no_compare rows at tag l) (ap (λ (n : ℕ). Some (Compare false n (at + 1))) (celled (tag - 17) (omega arith)))
