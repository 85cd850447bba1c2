-- Conditions that stand in the code are read back. Assumes nothing.
use mathlib.Core.Path.{◌≡◌, refl, ap}
use mathlib.Core.List.{List, [], ◌∷◌, ◌++◌}
use mathlib.Core.Bool.{Bool, true, false, cond}
use Prim.Native.Nat.{ℕ, zero, suc, ◌+◌, ◌-◌, ◌≤◌}
use native.Mathlib.Omega.{arith}
use lib.ListN.{length, length-append}
use borrow.Author.Tests.{lt-ltb, le-ltb, ne_eqb}
use Rattle.domain_meaning.specs.Terms.{Arg, Ref, Expr}
use Rattle.domain_meaning.specs.Conditions.{Comparison, Cond, Conds, all, atom, same, compare, none, cons}
use Rattle.domain_meaning.specs.Conditions as C
use Rattle.domain_terms.specs.Cells.{cell_of}
use Rattle.domain_expressions.specs.Codes.{ref_cells, cells_of}
use Rattle.domain_stored_meaning.specs.Cells.{comparison_cell, cond_cells, conds_cells}
use Rattle.domain_stored_meaning.specs.Decode.{Decoded, decoded, comparison_of, atom_at, same_at, compare_at, single_at, conds_at, cond_node, cond_at}
use Rattle.domain_stored_meaning.specs.Good.{GoodArg, GoodRef, GoodExpr, GoodCond, GoodConds}
use Rattle.domain_stored_meaning.proofs.Standing.{Stands, below, head_is, behind, front, after}
use Rattle.domain_stored_meaning.proofs.Expressions.{arg_back, ref_length, ref_read, expr_read}

-- ---- facts and equalities

atom_read : (yes' : Bool) (r : Ref) (code : List ℕ) (at d : ℕ) → GoodRef 3 r → Stands code at (ref_cells (cond yes' 4 8) r)
    → cond_at (suc d) code at ≡ decoded (atom yes' r) (at + length (ref_cells (cond yes' 4 8) r))
unfolding cond_at cond_node single_at atom_at
atom_read true r code at d g s =
    let k = length r.args in
    let e : 4 + k - 4 ≡ k = omega arith in
    let n : at + 2 + k ≡ at + length (ref_cells 4 r) = omega (arith, ref_length 4 r) in
    rw (
      below s,
      head_is s,
      ne_eqb (4 + k) 1 (λ z. omega arith),
      le-ltb (4 + k) 2 (omega arith),
      le-ltb (4 + k) 4 (omega arith),
      lt-ltb (4 + k) 8 (omega (arith, g.few)),
      e,
      ref_read r code at g s,
      n,
    )
atom_read false r code at d g s =
    let k = length r.args in
    let e : 8 + k - 8 ≡ k = omega arith in
    let n : at + 2 + k ≡ at + length (ref_cells 8 r) = omega (arith, ref_length 8 r) in
    rw (
      below s,
      head_is s,
      ne_eqb (8 + k) 1 (λ z. omega arith),
      le-ltb (8 + k) 2 (omega arith),
      le-ltb (8 + k) 4 (omega arith),
      le-ltb (8 + k) 8 (omega arith),
      lt-ltb (8 + k) 12 (omega (arith, g.few)),
      e,
      ref_read r code at g s,
      n,
    )

same_tag : (yes' : Bool) (f : ℕ → Decoded Cond) (code : List ℕ) (at : ℕ) → cond_node f code at (cond yes' 2 3) ≡ same_at code at yes'
unfolding cond_node single_at
same_tag true f code at = refl
same_tag false f code at = refl

same_read : (yes' : Bool) (a b : Arg) (code : List ℕ) (at d : ℕ) → GoodArg a → GoodArg b → Stands code at (cond yes' 2 3 ∷ cell_of a ∷ cell_of b ∷ [])
    → cond_at (suc d) code at ≡ decoded (same yes' a b) (at + 3)
unfolding cond_at same_at
same_read yes' a b code at d g h s =
    let t = behind s in
    let e : at + 1 + 1 ≡ at + 2 = omega arith in
    rw (below s, head_is s, same_tag yes' (cond_at d code) code at, head_is t, arg_back a g, ← e, head_is (behind t), arg_back b h)

-- ---- comparisons

compare_tag : (yes' : Bool) (op : Comparison) (f : ℕ → Decoded Cond) (code : List ℕ) (at : ℕ)
    → cond_node f code at (cond yes' 12 17 + comparison_cell op) ≡ compare_at code at yes' (comparison_cell op)
unfolding cond_node single_at
compare_tag true C.equal f code at = refl
compare_tag true C.less f code at = refl
compare_tag true C.at_most f code at = refl
compare_tag true C.more f code at = refl
compare_tag true C.at_least f code at = refl
compare_tag false C.equal f code at = refl
compare_tag false C.less f code at = refl
compare_tag false C.at_most f code at = refl
compare_tag false C.more f code at = refl
compare_tag false C.at_least f code at = refl

pub comparison_back : (op : Comparison) → comparison_of (comparison_cell op) ≡ op
unfolding comparison_of
comparison_back C.equal = refl
comparison_back C.less = refl
comparison_back C.at_most = refl
comparison_back C.more = refl
comparison_back C.at_least = refl

compare_read : (yes' : Bool) (op : Comparison) (a b : Expr) (code : List ℕ) (at d : ℕ) → GoodExpr 16 a → GoodExpr 16 b
    → Stands code at ((cond yes' 12 17 + comparison_cell op) ∷ (cells_of a ++ cells_of b))
    → cond_at (suc d) code at ≡ decoded (compare yes' op a b) (at + suc (length (cells_of a ++ cells_of b)))
unfolding cond_at compare_at
compare_read yes' op a b code at d g h s =
    let t = behind s in
    let n : at + 1 + length (cells_of a) + length (cells_of b) ≡ at + suc (length (cells_of a ++ cells_of b)) =
    omega (arith, length-append (cells_of a) (cells_of b)) in
    rw (
      below s,
      head_is s,
      compare_tag yes' op (cond_at d code) code at,
      comparison_back op,
      expr_read a code (at + 1) 16 g (front (cells_of a) (cells_of b) t),
      expr_read b code (at + 1 + length (cells_of a)) 16 h (after (cells_of a) (cells_of b) t),
      n,
    )

-- ---- lists

-- a condition's first cell is not 0
record Begun (xs : List ℕ) : Type 0 where
  tag : ℕ
  others : List ℕ
  are : xs ≡ tag ∷ others
  some : 1 ≤ tag

begun : (c : Cond) → Begun (cond_cells c)
unfolding cond_cells
begun (all cs) = record { tag = 1; others = conds_cells cs; are = refl; some = omega arith }
begun (atom true r) = record { tag = 4 + length r.args; others = _; are = refl; some = omega arith }
begun (atom false r) = record { tag = 8 + length r.args; others = _; are = refl; some = omega arith }
begun (same true a b) = record { tag = 2; others = _; are = refl; some = omega arith }
begun (same false a b) = record { tag = 3; others = _; are = refl; some = omega arith }
begun (compare true op a b) = record { tag = 12 + comparison_cell op; others = _; are = refl; some = omega arith }
begun (compare false op a b) = record { tag = 17 + comparison_cell op; others = _; are = refl; some = omega arith }

module _ (f : ℕ → Decoded Cond) (code : List ℕ) (at : ℕ) where
  end_read_lem : (n : ℕ) → 1 ≤ n → Stands code at (0 ∷ []) → conds_at f n code at ≡ decoded none (at + 1)
  unfolding conds_at
  end_read_lem zero h s = absurd (let y : ⊥ = omega arith in y)
  end_read_lem (suc n) h s = rw (below s, head_is s)

  cons_read : {c : Cond} {cs : Conds} (xs ys : List ℕ) (n : ℕ) → Begun xs → Stands code at (xs ++ ys) → f at ≡ decoded c (at + length xs)
      → conds_at f n code (at + length xs) ≡ decoded cs (at + length xs + length ys) → conds_at f (suc n) code at ≡ decoded (cons c cs) (at + length (xs ++ ys))
  unfolding conds_at
  cons_read xs ys n b s e r =
      let t : Stands code at (b.tag ∷ (b.others ++ ys)) = rw b.are at s in
      let k : at + length xs + length ys ≡ at + length (xs ++ ys) = omega (arith, length-append xs ys) in
      rw (below t, head_is t, ne_eqb b.tag 0 (λ z. omega (arith, b.some)), e, r, k)

all_read : {cs : Conds} {xs : List ℕ} (code : List ℕ) (at d : ℕ) → Stands code at (1 ∷ xs)
    → conds_at (cond_at d code) (length code) code (at + 1) ≡ decoded cs (at + 1 + length xs) → cond_at (suc d) code at ≡ decoded (all cs) (at + suc (length xs))
unfolding cond_at cond_node
all_read {cs} {xs} code at d s e =
    let n : at + 1 + length xs ≡ at + suc (length xs) = omega arith in
    rw (below s, head_is s, e, n)

mutual
  unfolding GoodCond GoodConds cond_cells conds_cells

  -- a condition that stands in the code is read back, with the place after it
  pub cond_read : (c : Cond) (code : List ℕ) (at d : ℕ) → GoodCond d c → Stands code at (cond_cells c) → cond_at d code at ≡ decoded c (at + length (cond_cells c))
  cond_read (all cs) code at zero g s = absurd g
  cond_read (all cs) code at (suc d) g s =
      let t = behind s in
      all_read code at d s (conds_read_lem cs code (at + 1) d (length code) (omega (arith, t.room)) g t)
  cond_read (atom yes' r) code at zero g s = absurd g
  cond_read (atom yes' r) code at (suc d) g s = atom_read yes' r code at d g s
  cond_read (same yes' a b) code at zero g s = absurd g
  cond_read (same yes' a b) code at (suc d) g s = same_read yes' a b code at d g.0 g.1 s
  cond_read (compare yes' op a b) code at zero g s = absurd g
  cond_read (compare yes' op a b) code at (suc d) g s = compare_read yes' op a b code at d g.0 g.1 s

  -- so is a list, in as many steps as it has cells
  pub conds_read_lem : (cs : Conds) (code : List ℕ) (at d n : ℕ) → length (conds_cells cs) ≤ n → GoodConds d cs → Stands code at (conds_cells cs)
      → conds_at (cond_at d code) n code at ≡ decoded cs (at + length (conds_cells cs))
  conds_read_lem none code at d n h g s = end_read_lem (cond_at d code) code at n h s
  conds_read_lem (cons c cs) code at d zero h g s =
      let b = begun c in
      absurd (let y : ⊥ = omega (arith, length-append (cond_cells c) (conds_cells cs), ap length b.are) in y)
  conds_read_lem (cons c cs) code at d (suc n) h g s =
      let b = begun c in
      cons_read (cond_at d code) code at (cond_cells c) (conds_cells cs) n b s
      (cond_read c code at d g.0 (front (cond_cells c) (conds_cells cs) s))
      (conds_read_lem cs code (at + length (cond_cells c)) d n (omega (arith, length-append (cond_cells c) (conds_cells cs), ap length b.are)) g.1
      (after (cond_cells c) (conds_cells cs) s))
