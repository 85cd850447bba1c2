-- What stands at a place of the code, by its first cell. Assumes nothing.
use mathlib.Core.Path.{◌≡◌, refl}
use mathlib.Core.List.{List}
use Prim.Native.Nat.{ℕ, zero, suc, ◌+◌, ◌-◌, ◌≤◌, ◌<◌}
use native.Mathlib.Omega.{arith}
use lib.ListN.{length}
use borrow.Author.Tests.{lt-ltb, le-ltb, ne_eqb}
use Rattle.domain_meaning.specs.Terms.{number, value, minus, difference, plus}
use Rattle.domain_literals.specs.Literal.{size_in}
use Rattle.domain_rows.specs.Held.{byte_at}
use Rattle.domain_stored_meaning.specs.Decode.{decoded, mapped, both, no_expr, ref_at, number_at, leaf_at, expr_node, expr_at}

module _ (code : List ℕ) (at : ℕ) where
  module _ (tag : ℕ) where
    pub leaf_low : tag < 5 → leaf_at code at tag ≡ no_expr (at + 1)
    unfolding leaf_at
    leaf_low h = rw (lt-ltb tag 5 h)

    pub leaf_value : 5 ≤ tag → tag < 8 → leaf_at code at tag ≡ decoded (value (ref_at code (at + 1) (tag - 5))) (at + 2 + (tag - 5))
    unfolding leaf_at
    leaf_value l h = rw (le-ltb tag 5 l, lt-ltb tag 8 h)

    pub leaf_gap : 8 ≤ tag → tag < 16 → leaf_at code at tag ≡ no_expr (at + 1)
    unfolding leaf_at
    leaf_gap l h = rw (le-ltb tag 5 (omega arith), le-ltb tag 8 l, lt-ltb tag 16 h)

    pub leaf_number : 16 ≤ tag → size_in tag < 6 → leaf_at code at tag ≡ decoded (number (number_at code (at + 1) tag)) (at + 1 + size_in tag)
    unfolding leaf_at
    leaf_number l h = rw (le-ltb tag 5 (omega arith), le-ltb tag 8 (omega arith), le-ltb tag 16 l, lt-ltb (size_in tag) 6 h)

    pub leaf_long : 16 ≤ tag → 6 ≤ size_in tag → leaf_at code at tag ≡ no_expr (at + 1)
    unfolding leaf_at
    leaf_long l h = rw (le-ltb tag 5 (omega arith), le-ltb tag 8 (omega arith), le-ltb tag 16 l, le-ltb (size_in tag) 6 h)

  pub expr_none : (d : ℕ) → d ≡ 0 → expr_at d code at ≡ no_expr at
  unfolding expr_at
  expr_none d h = rw h

  pub expr_past : (d : ℕ) → length code ≤ at → expr_at d code at ≡ no_expr at
  unfolding expr_at
  expr_past zero h = refl
  expr_past (suc d) h = rw (le-ltb at (length code) h)

  node : (d p : ℕ) → d ≡ suc p → at < length code → expr_at d code at ≡ expr_node (expr_at p code) code at (byte_at code at)
  unfolding expr_at
  node d p e h = rw (e, lt-ltb at (length code) h)

  module _ (d : ℕ) {tag : ℕ} (n : d ≡ 0 → ⊥) (h : at < length code) (g : tag ≡ byte_at code at) where
    by_tag : expr_at d code at ≡ expr_node (expr_at (d - 1) code) code at tag
    by_tag = let k : d ≡ suc (d - 1) = omega arith in rw g (node d (d - 1) k h)

    pub expr_leaf : 2 < tag → expr_at d code at ≡ leaf_at code at tag
    unfolding expr_node
    expr_leaf l =
        let p : (tag ≡ 0 → ⊥) = λ e. omega arith in
        let q : (tag ≡ 1 → ⊥) = λ e. omega arith in
        let r : (tag ≡ 2 → ⊥) = λ e. omega arith in
        rw (by_tag, ne_eqb tag 0 p, ne_eqb tag 1 q, ne_eqb tag 2 r)

    pub expr_minus : tag ≡ 0 → expr_at d code at ≡ mapped minus (expr_at (d - 1) code (at + 1))
    unfolding expr_node
    expr_minus z = rw (by_tag, z)

    pub expr_less : tag ≡ 1 → expr_at d code at ≡ both difference (expr_at (d - 1) code (at + 1)) (expr_at (d - 1) code)
    unfolding expr_node
    expr_less z = rw (by_tag, z)

    pub expr_plus : tag ≡ 2 → expr_at d code at ≡ both plus (expr_at (d - 1) code (at + 1)) (expr_at (d - 1) code)
    unfolding expr_node
    expr_plus z = rw (by_tag, z)
