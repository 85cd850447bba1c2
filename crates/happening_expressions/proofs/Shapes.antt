-- What stands at a place of the rows, by its first byte; and the place after it is never before it. Assumes nothing.
use mathlib.Core.Path.{◌≡◌, refl}
use mathlib.Core.List.{List}
use mathlib.Core.Bool.{Bool, true, false, cond}
use Prim.Native.Nat.{ℕ, zero, suc, ◌+◌, ◌-◌, ◌≤◌, ◌<◌}
use native.Mathlib.Nat.{le_trans}
use native.Mathlib.Omega.{arith}
use lib.Dec.{ltb, eqb}
use lib.IntN.{ℤ, pos}
use lib.ListN.{length}
use borrow.Author.Tests.{lt-ltb, le-ltb, ne_eqb, eqb-true, eqb-false}
use Rattle.domain_meaning.specs.Terms.{Expr, number, value, minus, difference, plus}
use Rattle.domain_literals.specs.Literal.{size_in}
use Rattle.domain_rows.specs.Held.{byte_at}
use Rattle.domain_stored_meaning.specs.Decode.{Decoded, decoded, mapped, both, no_expr, number_at}
use Rattle.domain_prepared_meaning.specs.Forms.{ref_by}
use Rattle.domain_prepared_meaning.specs.Decode.{form_at, leaf_at, expr_node, expr_at}

abbrev pub two_of : Bool → Expr → Expr → Expr
two_of true a b = difference a b
two_of false a b = plus a b

module _ (rows : List ℕ) (at : ℕ) where
  module _ (tag : ℕ) where
    pub leaf_value : 5 ≤ tag → tag < 8 → leaf_at rows at tag ≡ decoded (value (ref_by (form_at rows (at + 1) (tag - 5)))) (at + 3 + (tag - 5))
    unfolding leaf_at
    leaf_value l h = rw (le-ltb tag 5 l, lt-ltb tag 8 h)

    -- what reads nothing
    plain : (p q : Bool) (m : ℤ) (i j k : ℕ)
        → (cond p (no_expr i) (cond q (decoded (number m) j) (no_expr k))).tree ≡ number (cond p (pos 0) (cond q m (pos 0)))
    plain true q m i j k = refl
    plain false true m i j k = refl
    plain false false m i j k = refl

    pub leaf_none : tag < 5 → (leaf_at rows at tag).tree ≡ number (pos 0)
    unfolding leaf_at
    leaf_none h = rw (lt-ltb tag 5 h)

    pub leaf_plain : 8 ≤ tag
        → (leaf_at rows at tag).tree ≡ number (cond (ltb tag 16) (pos 0) (cond (ltb (size_in tag) 6) (number_at rows (at + 1) tag) (pos 0)))
    unfolding leaf_at
    leaf_plain h =
        rw (le-ltb tag 5 (omega arith), le-ltb tag 8 h)
        (plain (ltb tag 16) (ltb (size_in tag) 6) (number_at rows (at + 1) tag) (at + 1) (at + 1 + size_in tag) (at + 1))

  pub expr_none : (d : ℕ) → d ≡ 0 → expr_at d rows at ≡ no_expr at
  unfolding expr_at
  expr_none d h = rw h

  pub expr_past : (d : ℕ) → length rows ≤ at → expr_at d rows at ≡ no_expr at
  unfolding expr_at
  expr_past zero h = refl
  expr_past (suc d) h = rw (le-ltb at (length rows) h)

  pub expr_here : (d : ℕ) → (d ≡ 0 → ⊥) → at < length rows → expr_at d rows at ≡ expr_node (expr_at (d - 1) rows) rows at (byte_at rows at)
  unfolding expr_at
  expr_here zero n h = absurd (n refl)
  expr_here (suc d) n h = let z : suc d - 1 ≡ d = omega arith in rw (z, lt-ltb at (length rows) h)

  module _ (d : ℕ) {tag : ℕ} (n : d ≡ 0 → ⊥) (h : at < length rows) (g : tag ≡ byte_at rows at) where
    by_tag : expr_at d rows at ≡ expr_node (expr_at (d - 1) rows) rows at tag
    by_tag = rw g (expr_here d n h)

    pub expr_leaf : 2 < tag → expr_at d rows at ≡ leaf_at rows at tag
    unfolding expr_node
    expr_leaf l =
        let p : (tag ≡ 0 → ⊥) = λ e. omega arith in
        let q : (tag ≡ 1 → ⊥) = λ e. omega arith in
        let r : (tag ≡ 2 → ⊥) = λ e. omega arith in
        rw (by_tag, ne_eqb tag 0 p, ne_eqb tag 1 q, ne_eqb tag 2 r)

    pub expr_minus : tag ≡ 0 → expr_at d rows at ≡ mapped minus (expr_at (d - 1) rows (at + 1))
    unfolding expr_node
    expr_minus z = rw (by_tag, z)

    pub expr_less : tag ≡ 1 → expr_at d rows at ≡ both difference (expr_at (d - 1) rows (at + 1)) (expr_at (d - 1) rows)
    unfolding expr_node
    expr_less z = rw (by_tag, z)

    pub expr_plus : tag ≡ 2 → expr_at d rows at ≡ both plus (expr_at (d - 1) rows (at + 1)) (expr_at (d - 1) rows)
    unfolding expr_node
    expr_plus z = rw (by_tag, z)

    pub expr_two : (tag ≡ 0 → ⊥) → tag ≤ 2 → expr_at d rows at ≡ both (two_of (eqb tag 1)) (expr_at (d - 1) rows (at + 1)) (expr_at (d - 1) rows)
    expr_two z l = by_op (eqb tag 1) refl
      where
        by_op : (q : Bool) → eqb tag 1 ≡ q → expr_at d rows at ≡ both (two_of q) (expr_at (d - 1) rows (at + 1)) (expr_at (d - 1) rows)
        by_op true e = expr_less (eqb-true tag 1 e)
        by_op false e = expr_plus (let q : (tag ≡ 1 → ⊥) = eqb-false tag 1 e in omega arith)

-- ---- the place after it

pick : (n : ℕ) (t : Bool) (x y : Decoded Expr) → n ≤ x.next → n ≤ y.next → n ≤ (cond t x y).next
pick n true x y h l = h
pick n false x y h l = l

leaf_grows : (rows : List ℕ) (at tag : ℕ) → at ≤ (leaf_at rows at tag).next
unfolding leaf_at
leaf_grows rows at tag =
    pick at (ltb tag 5) (no_expr (at + 1)) _ (omega arith)
    (pick at (ltb tag 8) (decoded (value (ref_by (form_at rows (at + 1) (tag - 5)))) (at + 3 + (tag - 5))) _ (omega arith)
    (pick at (ltb tag 16) (no_expr (at + 1)) _ (omega arith)
    (pick at (ltb (size_in tag) 6) (decoded (number (number_at rows (at + 1) tag)) (at + 1 + size_in tag)) (no_expr (at + 1)) (omega arith) (omega arith))))

node_grows : (f : ℕ → Decoded Expr) → ((i : ℕ) → i ≤ (f i).next) → (rows : List ℕ) (at tag : ℕ) → at ≤ (expr_node f rows at tag).next
unfolding expr_node
node_grows f h rows at tag =
    pick at (eqb tag 0) (mapped minus (f (at + 1))) _ one
    (pick at (eqb tag 1) (both difference (f (at + 1)) f) _ two
    (pick at (eqb tag 2) (both plus (f (at + 1)) f) (leaf_at rows at tag) two (leaf_grows rows at tag)))
  where
    one : at ≤ (f (at + 1)).next
    one = let l : at + 1 ≤ (f (at + 1)).next = h (at + 1) in omega arith

    two : at ≤ (f (f (at + 1)).next).next
    two = le_trans one (h (f (at + 1)).next)

pub expr_grows : (d : ℕ) (rows : List ℕ) (at : ℕ) → at ≤ (expr_at d rows at).next
unfolding expr_at
expr_grows zero rows at = omega arith
expr_grows (suc d) rows at =
    pick at (ltb at (length rows)) (expr_node (expr_at d rows) rows at (byte_at rows at)) (no_expr at)
    (node_grows (expr_at d rows) (λ i. expr_grows d rows i) rows at (byte_at rows at)) (omega arith)
