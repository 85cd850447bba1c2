-- References by their forms, and expressions, that stand in rows are read back. Assumes nothing.
use mathlib.Core.Path.{◌≡◌, refl, ap₂}
use mathlib.Core.List.{List, [], ◌∷◌, ◌++◌}
use Prim.Native.Nat.{ℕ, zero, suc, ◌+◌, ◌-◌, ◌*◌, ◌/◌, ◌%◌, ◌^◌, ◌≤◌, ◌<◌}
use native.Mathlib.Nat.{add-mul-mod_self_left, add-mul-div_left}
use native.Mathlib.Omega.{arith}
use lib.ListN.{length, length-append}
use lib.IntN.{ℤ}
use lib.Signed.{mag}
use borrow.Author.Tests.{lt-ltb, le-ltb, ne_eqb}
use Rattle.domain_meaning.specs.Terms.{Arg, object, variable, Ref, Expr, number, value, minus, difference, plus}
use Rattle.domain_literals.specs.Literal.{size_in, number_cells}
use Rattle.domain_rows.specs.Held.{byte_at}
use Rattle.domain_stored_meaning.specs.Decode.{decoded}
use Rattle.domain_stored_meaning.specs.Good.{GoodRef, GoodExpr}
use Rattle.domain_stored_meaning.proofs.Standing.{Stands, below, head_is, behind, front, after}
use Rattle.domain_stored_meaning.proofs.Numbers.{number_told}
use Rattle.domain_prepared_meaning.specs.Forms.{share, form, shares_of, form_of}
use Rattle.domain_prepared_meaning.specs.Preparing.{number_ref, expr}
use Rattle.domain_prepared_meaning.specs.Rows.{two_bytes, share_bytes, form_bytes, expr_bytes}
use Rattle.domain_prepared_meaning.specs.Decode.{word_at, share_in, shares_at, form_at, leaf_at, expr_node, expr_at}
use Rattle.domain_prepared_meaning.specs.Good.{PreparesArgs, PreparesRef, PreparesExpr}

-- a number of two bytes
pub word_read : (rows : List ℕ) (at x : ℕ) (xs : List ℕ) → x < 65536 → Stands rows at (two_bytes x ++ xs) → word_at rows at ≡ x
word_read rows at x xs h s = rw (head_is s, head_is (behind s)) (omega arith)

pub share_count : (as' : List Arg) → length (share_bytes as') ≤ length as'
unfolding share_bytes
share_count [] = omega arith
share_count (object i ∷ as') = omega (arith, share_count as')
share_count (variable i ∷ as') = omega (arith, share_count as')

-- the rows say the number of objects, if there are variables
module _ (n k : ℕ) (rows : List ℕ) (most : k ≤ 4) (counted : 0 < k → byte_at rows 0 ≡ n) where
  share_read : (i l : ℕ) → i < k → l < 4 → share_in rows (i + 4 * l) ≡ share i (n ^ l)
  share_read i l h m =
      let p : (i + 4 * l) % 4 ≡ i = omega (arith, add-mul-mod_self_left i 4 l) in
      let d : (i + 4 * l) / 4 ≡ l = omega (arith, add-mul-div_left i l (let z : 0 < 4 = omega arith in z)) in
      let q : (i + 4 * l) / 4 % 4 ≡ l = rw d (omega arith) in
      rw (p, q, counted (omega arith))

  shares_read : (as' : List Arg) (at : ℕ) → length as' ≤ 3 → PreparesArgs k as' → Stands rows at (share_bytes as')
      → shares_at rows at (length (share_bytes as')) ≡ shares_of n as'
  unfolding share_bytes shares_at shares_of PreparesArgs
  shares_read [] at l h s = refl
  shares_read (object i ∷ as') at l h s = shares_read as' at (omega arith) h s
  shares_read (variable i ∷ as') at l h s =
      rw (head_is s)
      (ap₂ ◌∷◌ (share_read i (length as') h.0 (omega arith)) (shares_read as' (at + 1) (omega arith) h.1 (behind s)))

  -- after its tag
  pub form_read : {tag : ℕ} (firsts : List ℕ) (r : Ref) (at : ℕ) → length r.args ≤ 3 → PreparesRef n firsts k r
      → Stands rows at (tag ∷ (two_bytes (form_of n firsts r).base ++ share_bytes r.args))
      → form_at rows (at + 1) (length (share_bytes r.args)) ≡ form_of n firsts r
  unfolding form_at form_of
  form_read firsts r at l h s =
      let t = behind s in
      let e : at + 1 + 1 + 1 ≡ at + 1 + 2 = omega arith in
      ap₂ form (word_read rows (at + 1) (form_of n firsts r).base (share_bytes r.args) h.base t)
      (rw (← e) (shares_read r.args (at + 1 + 1 + 1) l h.args (behind (behind t))))

  -- ---- expressions

  module _ (ps fs : List ℕ) where
    value_read : (r : Ref) (at d : ℕ) → GoodRef 2 r → PreparesRef n fs k r → Stands rows at (form_bytes n ps fs 5 fs r)
        → expr_at (suc d) rows at ≡ decoded (value (number_ref n ps fs r)) (at + length (form_bytes n ps fs 5 fs r))
    unfolding expr_at expr_node leaf_at
    value_read r at d g h s =
        let v = length (share_bytes r.args) in
        let c = share_count r.args in
        let e : 5 + v - 5 ≡ v = omega arith in
        let m : at + 3 + v ≡ at + length (form_bytes n ps fs 5 fs r) = omega arith in
        rw (
          below s,
          head_is s,
          ne_eqb (5 + v) 0 (λ i. omega arith),
          ne_eqb (5 + v) 1 (λ i. omega arith),
          ne_eqb (5 + v) 2 (λ i. omega arith),
          le-ltb (5 + v) 5 (omega arith),
          lt-ltb (5 + v) 8 (omega (arith, g.few)),
          e,
          form_read fs r at (omega (arith, g.few)) h s,
          m,
        )

    number_read : (z : ℤ) (at d : ℕ) → mag z < 1099511627775 → Stands rows at (number_cells z)
        → expr_at (suc d) rows at ≡ decoded (number z) (at + length (number_cells z))
    unfolding expr_at expr_node leaf_at
    number_read z at d g s =
        let w = number_told z rows at g s in
        rw (
          below w.stands,
          head_is w.stands,
          ne_eqb w.tag 0 (λ i. omega (arith, w.big)),
          ne_eqb w.tag 1 (λ i. omega (arith, w.big)),
          ne_eqb w.tag 2 (λ i. omega (arith, w.big)),
          le-ltb w.tag 5 (omega (arith, w.big)),
          le-ltb w.tag 8 (omega (arith, w.big)),
          le-ltb w.tag 16 w.big,
          lt-ltb (size_in w.tag) 6 (omega (arith, w.few)),
          w.is,
          w.next,
        )

    module _ (at d : ℕ) where
      one_read : {a : Expr} {xs : List ℕ} → Stands rows at (0 ∷ xs) → expr_at d rows (at + 1) ≡ decoded a (at + 1 + length xs)
          → expr_at (suc d) rows at ≡ decoded (minus a) (at + length (0 ∷ xs))
      unfolding expr_at expr_node
      one_read {a} {xs} s e =
          let m : at + 1 + length xs ≡ at + length (0 ∷ xs) = omega arith in
          rw (below s, head_is s, e, m)

      less_read : {a b : Expr} (xs ys : List ℕ) → Stands rows at (1 ∷ (xs ++ ys)) → expr_at d rows (at + 1) ≡ decoded a (at + 1 + length xs)
          → expr_at d rows (at + 1 + length xs) ≡ decoded b (at + 1 + length xs + length ys)
          → expr_at (suc d) rows at ≡ decoded (difference a b) (at + length (1 ∷ (xs ++ ys)))
      unfolding expr_at expr_node
      less_read xs ys s e f =
          let m : at + 1 + length xs + length ys ≡ at + length (1 ∷ (xs ++ ys)) = omega (arith, length-append xs ys) in
          simp (below s, head_is s, e, f, m)

      plus_read : {a b : Expr} (xs ys : List ℕ) → Stands rows at (2 ∷ (xs ++ ys)) → expr_at d rows (at + 1) ≡ decoded a (at + 1 + length xs)
          → expr_at d rows (at + 1 + length xs) ≡ decoded b (at + 1 + length xs + length ys)
          → expr_at (suc d) rows at ≡ decoded (plus a b) (at + length (2 ∷ (xs ++ ys)))
      unfolding expr_at expr_node
      plus_read xs ys s e f =
          let m : at + 1 + length xs + length ys ≡ at + length (2 ∷ (xs ++ ys)) = omega (arith, length-append xs ys) in
          simp (below s, head_is s, e, f, m)

    -- an expression that stands in rows is read back prepared, with the place after it
    pub expr_read : (x : Expr) (at d : ℕ) → GoodExpr d x → PreparesExpr n ps fs k x → Stands rows at (expr_bytes n ps fs x)
        → expr_at d rows at ≡ decoded (expr n ps fs x) (at + length (expr_bytes n ps fs x))
    unfolding GoodExpr PreparesExpr expr_bytes expr
    expr_read x at zero g h s = absurd g
    expr_read (number z) at (suc d) g h s = number_read z at d g s
    expr_read (value r) at (suc d) g h s = value_read r at d g h s
    expr_read (minus a) at (suc d) g h s = one_read at d s (expr_read a (at + 1) d g h (behind s))
    expr_read (difference a b) at (suc d) g h s =
        let xs = expr_bytes n ps fs a in
        let ys = expr_bytes n ps fs b in
        let t = behind s in
        less_read at d xs ys s (expr_read a (at + 1) d g.0 h.0 (front xs ys t)) (expr_read b (at + 1 + length xs) d g.1 h.1 (after xs ys t))
    expr_read (plus a b) at (suc d) g h s =
        let xs = expr_bytes n ps fs a in
        let ys = expr_bytes n ps fs b in
        let t = behind s in
        plus_read at d xs ys s (expr_read a (at + 1) d g.0 h.0 (front xs ys t)) (expr_read b (at + 1 + length xs) d g.1 h.1 (after xs ys t))
