-- Lists of single conditions that stand in rows are read back. Assumes nothing.
use mathlib.Core.Path.{◌≡◌, refl, ap}
use mathlib.Core.List.{List, [], ◌∷◌, ◌++◌, map}
use mathlib.Core.Bool.{Bool, true, false, cond}
use Prim.Native.Nat.{ℕ, zero, suc, ◌+◌, ◌-◌, ◌≤◌, ◌<◌}
use native.Mathlib.Omega.{arith}
use lib.ListN.{length, length-append}
use borrow.Author.Tests.{lt-ltb, le-ltb}
use Rattle.domain_meaning.specs.Terms.{Expr}
use Rattle.domain_meaning.specs.Conditions.{Comparison, Cond, Conds, all, atom, same, compare, none, cons}
use Rattle.domain_meaning.specs.Conditions as C
use Rattle.domain_meaning.specs.Actions.{When, Timed}
use Rattle.domain_rows.specs.Held.{byte_at}
use Rattle.domain_stored_meaning.specs.Cells.{comparison_cell}
use Rattle.domain_stored_meaning.specs.Decode.{decoded}
use Rattle.domain_stored_meaning.specs.Good.{GoodArg, GoodRef, GoodExpr, GoodCond, GoodConds, GoodParts}
use Rattle.domain_stored_meaning.proofs.Standing.{Stands, below, head_is, behind, front, after}
use Rattle.domain_stored_meaning.proofs.Expressions.{arg_back}
use Rattle.domain_stored_meaning.proofs.Conditions.{comparison_back}
use Rattle.domain_prepared_meaning.specs.Preparing.{is_at, parts_at, singles, singles_of, all_singles, test}
use Rattle.domain_prepared_meaning.specs.Rows.{share_bytes, expr_bytes, test_bytes, tests_bytes}
use Rattle.domain_prepared_meaning.specs.Decode.{begins_test, same_at, atom_at, compare_at, test_at, tests_from, tests_at}
use Rattle.domain_prepared_meaning.specs.Good.{PreparesRef, PreparesExpr, PreparesCond, PreparesConds}
use Rattle.domain_prepared_meaning.proofs.Forms.{share_count, form_read, expr_read}

-- ---- what is asked of a single condition

-- with n objects, the first indexes of predicates (ps) and of functions (fs), and variables below k
module _ (n k : ℕ) (ps fs : List ℕ) where
  unfoldable pub GoodTest : Cond → Type 0
  GoodTest (all cs) = ⊥
  GoodTest (atom yes' r) = GoodRef 3 r × PreparesRef n ps k r
  GoodTest (same yes' a b) = GoodArg a × GoodArg b
  GoodTest (compare yes' op a b) = GoodExpr 16 a × GoodExpr 16 b × PreparesExpr n ps fs k a × PreparesExpr n ps fs k b

  unfoldable pub GoodTests : List Cond → Type 0
  GoodTests [] = Unit {0}
  GoodTests (c ∷ cs) = GoodTest c × GoodTests cs

  tests_join : (xs ys : List Cond) → GoodTests xs → GoodTests ys → GoodTests (xs ++ ys)
  unfolding GoodTests
  tests_join [] ys g h = h
  tests_join (x ∷ xs) ys g h = (g.0, tests_join xs ys g.1 h)

  mutual
    unfolding GoodCond PreparesCond GoodTest GoodTests singles

    pub singles_good : (c : Cond) (d : ℕ) → GoodCond d c → PreparesCond n ps fs k c → GoodTests (singles c)
    singles_good (all cs) zero g h = absurd g
    singles_good (all cs) (suc d) g h = parts_good cs d g h
    singles_good (atom yes' r) zero g h = absurd g
    singles_good (atom yes' r) (suc d) g h = ((g, h), tt)
    singles_good (same yes' a b) zero g h = absurd g
    singles_good (same yes' a b) (suc d) g h = (g, tt)
    singles_good (compare yes' op a b) zero g h = absurd g
    singles_good (compare yes' op a b) (suc d) g h = ((g.0, g.1, h.0, h.1), tt)

    parts_good : (cs : Conds) (d : ℕ) → GoodConds d cs → PreparesConds n ps fs k cs → GoodTests (singles_of cs)
    parts_good none d g h = tt
    parts_good (cons c cs) d g h = tests_join (singles c) (singles_of cs) (singles_good c d g.0 h.0) (parts_good cs d g.1 h.1)

  -- those of one time
  pub tests_good : (w : When) (xs : List (Timed Cond)) → GoodParts (GoodCond 16) xs → GoodParts (PreparesCond n ps fs k) xs
      → GoodTests (all_singles (parts_at w xs))
  unfolding GoodParts parts_at all_singles GoodTests
  tests_good w [] g h = tt
  tests_good w (x ∷ xs) g h = go (is_at x.when w) (tests_good w xs g.1 h.1)
    where
      go : (b : Bool) → GoodTests (all_singles (parts_at w xs)) → GoodTests (all_singles (cond b (x.what ∷ parts_at w xs) (parts_at w xs)))
      go true i = tests_join (singles x.what) (all_singles (parts_at w xs)) (singles_good x.what 16 g.0 h.0) i
      go false i = i

-- ---- single conditions, by their tags

same_tag : (yes' : Bool) (rows : List ℕ) (at : ℕ) → test_at rows at (cond yes' 2 3) ≡ same_at rows at yes'
unfolding test_at
same_tag true rows at = refl
same_tag false rows at = refl

compare_tag : (yes' : Bool) (op : Comparison) (rows : List ℕ) (at : ℕ)
    → test_at rows at (cond yes' 12 17 + comparison_cell op) ≡ compare_at rows at yes' (comparison_cell op)
unfolding test_at
compare_tag true C.equal rows at = refl
compare_tag true C.less rows at = refl
compare_tag true C.at_most rows at = refl
compare_tag true C.more rows at = refl
compare_tag true C.at_least rows at = refl
compare_tag false C.equal rows at = refl
compare_tag false C.less rows at = refl
compare_tag false C.at_most rows at = refl
compare_tag false C.more rows at = refl
compare_tag false C.at_least rows at = refl

atom_tag : (yes' : Bool) (rows : List ℕ) (at v : ℕ) → v ≤ 3 → test_at rows at (cond yes' 4 8 + v) ≡ atom_at rows at yes' v
unfolding test_at
atom_tag true rows at v h =
    let e : 4 + v - 4 ≡ v = omega arith in
    rw (le-ltb (4 + v) 4 (omega arith), lt-ltb (4 + v) 8 (omega arith), e)
atom_tag false rows at v h =
    let e : 8 + v - 8 ≡ v = omega arith in
    rw (le-ltb (8 + v) 4 (omega arith), le-ltb (8 + v) 8 (omega arith), lt-ltb (8 + v) 12 (omega arith), e)

-- the first byte of a row
record Begun (xs : List ℕ) : Type 0 where
  tag : ℕ
  others : List ℕ
  are : xs ≡ tag ∷ others
  some : 2 ≤ tag
  most : tag ≤ 21

cell_below : (op : Comparison) → comparison_cell op ≤ 4
cell_below C.equal = omega arith
cell_below C.less = omega arith
cell_below C.at_most = omega arith
cell_below C.more = omega arith
cell_below C.at_least = omega arith

-- the rows say the number of objects, if there are variables
module _ (n k : ℕ) (rows : List ℕ) (few : k ≤ 4) (counted : 0 < k → byte_at rows 0 ≡ n) (ps fs : List ℕ) where
  begun : (c : Cond) → GoodTest n k ps fs c → Begun (test_bytes n ps fs c)
  unfolding GoodTest test_bytes
  begun (all cs) g = absurd g
  begun (atom true r) g =
      record { tag = 4 + length (share_bytes r.args); others = _; are = refl; some = omega arith; most = omega (arith, share_count r.args, g.0.few) }
  begun (atom false r) g =
      record { tag = 8 + length (share_bytes r.args); others = _; are = refl; some = omega arith; most = omega (arith, share_count r.args, g.0.few) }
  begun (same true a b) g = record { tag = 2; others = _; are = refl; some = omega arith; most = omega arith }
  begun (same false a b) g = record { tag = 3; others = _; are = refl; some = omega arith; most = omega arith }
  begun (compare true op a b) g =
      record { tag = 12 + comparison_cell op; others = _; are = refl; some = omega arith; most = omega (arith, cell_below op) }
  begun (compare false op a b) g =
      record { tag = 17 + comparison_cell op; others = _; are = refl; some = omega arith; most = omega (arith, cell_below op) }

  compare_read : (yes' : Bool) (op : Comparison) (a b : Expr) (at : ℕ) → GoodTest n k ps fs (compare yes' op a b)
      → Stands rows at (test_bytes n ps fs (compare yes' op a b))
      → compare_at rows at yes' (comparison_cell op)
      ≡ decoded (test n ps fs (compare yes' op a b)) (at + length (test_bytes n ps fs (compare yes' op a b)))
  unfolding GoodTest test_bytes test
  compare_read yes' op a b at g s =
      let xs = expr_bytes n ps fs a in
      let ys = expr_bytes n ps fs b in
      let t = behind s in
      let m : at + 1 + length xs + length ys ≡ at + suc (length (xs ++ ys)) = omega (arith, length-append xs ys) in
      rw (
        comparison_back op,
        expr_read n k rows few counted ps fs a (at + 1) 16 g.0 g.2 (front xs ys t),
        expr_read n k rows few counted ps fs b (at + 1 + length xs) 16 g.1 g.3 (after xs ys t),
        m,
      )

  -- a single condition that stands in rows is read back prepared, with the place after it
  pub test_read : (c : Cond) (at : ℕ) → GoodTest n k ps fs c → Stands rows at (test_bytes n ps fs c)
      → test_at rows at (byte_at rows at) ≡ decoded (test n ps fs c) (at + length (test_bytes n ps fs c))
  unfolding GoodTest test_bytes test
  test_read (all cs) at g s = absurd g
  test_read (atom yes' r) at g s =
      let v = length (share_bytes r.args) in
      let c = share_count r.args in
      let m : at + 3 + v ≡ at + suc (suc (suc v)) = omega arith in
      rw (
        head_is s,
        atom_tag yes' rows at v (omega (arith, g.0.few)),
        form_read n k rows few counted ps r at g.0.few g.1 s,
        m,
      )
  test_read (same yes' a b) at g s =
      let t = behind s in
      let e : at + 1 + 1 ≡ at + 2 = omega arith in
      rw (head_is s, same_tag yes' rows at, head_is t, arg_back a g.0, ← e, head_is (behind t), arg_back b g.1)
  test_read (compare yes' op a b) at g s = rw (head_is s, compare_tag yes' op rows at) (compare_read yes' op a b at g s)

  -- ---- lists

  end_read_lem : (at m : ℕ) → 1 ≤ m → Stands rows at (0 ∷ []) → tests_from m rows at ≡ []
  unfolding tests_from begins_test
  end_read_lem at zero h s = absurd (let y : ⊥ = omega arith in y)
  end_read_lem at (suc m) h s = rw (below s, head_is s)

  cons_read : {c : Cond} {cs : List Cond} (xs ys : List ℕ) (at m : ℕ) → Begun xs → Stands rows at (xs ++ ys)
      → test_at rows at (byte_at rows at) ≡ decoded c (at + length xs) → tests_from m rows (at + length xs) ≡ cs → tests_from (suc m) rows at ≡ c ∷ cs
  unfolding tests_from begins_test
  cons_read xs ys at m b s e r =
      let t : Stands rows at (b.tag ∷ (b.others ++ ys)) = rw b.are at s in
      let h = head_is t in
      let o = rw h at e in
      rw (below t, h, le-ltb b.tag 2 b.some, lt-ltb b.tag 22 (omega (arith, b.most)), o, r)

  -- a list that stands in rows is read back, in as many steps as it has bytes
  pub tests_read : (cs : List Cond) (at m : ℕ) → length (tests_bytes n ps fs cs) ≤ m → GoodTests n k ps fs cs → Stands rows at (tests_bytes n ps fs cs)
      → tests_from m rows at ≡ map (test n ps fs) cs
  unfolding GoodTests tests_bytes
  tests_read [] at m h g s = end_read_lem at m h s
  tests_read (c ∷ cs) at zero h g s =
      let b = begun c g.0 in
      absurd (let y : ⊥ = omega (arith, length-append (test_bytes n ps fs c) (tests_bytes n ps fs cs), ap length b.are) in y)
  tests_read (c ∷ cs) at (suc m) h g s =
      let xs = test_bytes n ps fs c in
      let ys = tests_bytes n ps fs cs in
      let b = begun c g.0 in
      cons_read xs ys at m b s (test_read c at g.0 (front xs ys s))
      (tests_read cs (at + length xs) m (omega (arith, length-append xs ys, ap length b.are)) g.1 (after xs ys s))

  pub list_read : (cs : List Cond) (at : ℕ) → GoodTests n k ps fs cs → Stands rows at (tests_bytes n ps fs cs) → tests_at rows at ≡ map (test n ps fs) cs
  list_read cs at g s = tests_read cs at (length rows) (omega (arith, s.room)) g s
