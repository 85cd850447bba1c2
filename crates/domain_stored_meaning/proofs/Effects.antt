-- Effects that stand in the code are read back. Assumes nothing.
use mathlib.Core.Path.{◌≡◌, refl, ap}
use mathlib.Core.List.{List, [], ◌∷◌, ◌++◌, append_assoc}
use mathlib.Core.Bool.{Bool, true, false, cond}
use Prim.Native.Nat.{ℕ, zero, suc, ◌+◌, ◌-◌, ◌≤◌}
use native.Mathlib.Omega.{arith}
use lib.ListN.{length, length-append}
use borrow.Author.Tests.{lt-ltb, le-ltb}
use Rattle.domain_meaning.specs.Terms.{Ref, Expr}
use Rattle.domain_meaning.specs.Effects.{Change, assign, raise, lower, Effect, becomes, changes}
use Rattle.domain_expressions.specs.Codes.{ref_cells, cells_of}
use Rattle.domain_rows.specs.Held.{byte_at}
use Rattle.domain_stored_meaning.specs.Cells.{change_cell, effect_cells, effects_cells, list_cells}
use Rattle.domain_stored_meaning.specs.Decode.{decoded, change_at, effect_at, begins, effects_at}
use Rattle.domain_stored_meaning.specs.Good.{GoodRef, GoodExpr, GoodEffect, GoodEffects}
use Rattle.domain_stored_meaning.proofs.Standing.{Stands, below, head_is, front, after}
use Rattle.domain_stored_meaning.proofs.Expressions.{ref_length, ref_read, expr_read}

becomes_read : (yes' : Bool) (r : Ref) (code : List ℕ) (at : ℕ) → GoodRef 3 r → Stands code at (ref_cells (cond yes' 4 8) r)
    → effect_at code at (cond yes' 4 8 + length r.args) ≡ decoded (becomes yes' r) (at + length (ref_cells (cond yes' 4 8) r))
unfolding effect_at
becomes_read true r code at g s =
    let k = length r.args in
    let e : 4 + k - 4 ≡ k = omega arith in
    let n : at + 2 + k ≡ at + length (ref_cells 4 r) = omega (arith, ref_length 4 r) in
    rw (lt-ltb (4 + k) 8 (omega (arith, g.few)), e, ref_read r code at g s, n)
becomes_read false r code at g s =
    let k = length r.args in
    let e : 8 + k - 8 ≡ k = omega arith in
    let n : at + 2 + k ≡ at + length (ref_cells 8 r) = omega (arith, ref_length 8 r) in
    rw (le-ltb (8 + k) 8 (omega arith), lt-ltb (8 + k) 12 (omega (arith, g.few)), e, ref_read r code at g s, n)

-- the tag says how a number is changed
change_tag : (how : Change) (code : List ℕ) (at k : ℕ) → k ≤ 2 → effect_at code at (change_cell how + k) ≡ change_at code at how k
unfolding effect_at
change_tag assign code at k h =
    let e : 12 + k - 12 ≡ k = omega arith in
    rw (le-ltb (12 + k) 8 (omega arith), le-ltb (12 + k) 12 (omega arith), lt-ltb (12 + k) 15 (omega arith), e)
change_tag raise code at k h =
    let e : 15 + k - 15 ≡ k = omega arith in
    rw (le-ltb (15 + k) 8 (omega arith), le-ltb (15 + k) 12 (omega arith), le-ltb (15 + k) 15 (omega arith), lt-ltb (15 + k) 18 (omega arith), e)
change_tag lower code at k h =
    let e : 18 + k - 18 ≡ k = omega arith in
    rw (le-ltb (18 + k) 8 (omega arith), le-ltb (18 + k) 12 (omega arith), le-ltb (18 + k) 15 (omega arith), le-ltb (18 + k) 18 (omega arith), e)

changes_read : (how : Change) (r : Ref) (x : Expr) (code : List ℕ) (at : ℕ) → GoodRef 2 r → GoodExpr 16 x
    → Stands code at (ref_cells (change_cell how) r ++ cells_of x)
    → effect_at code at (change_cell how + length r.args) ≡ decoded (changes how r x) (at + length (ref_cells (change_cell how) r ++ cells_of x))
changes_read how r x code at g h s =
    let cells = ref_cells (change_cell how) r in
    let k = length r.args in
    let l : at + 2 + k ≡ at + length cells = omega (arith, ref_length (change_cell how) r) in
    let n : at + length cells + length (cells_of x) ≡ at + length (cells ++ cells_of x) = omega (arith, length-append cells (cells_of x)) in
    rw (
      change_tag how code at k g.few,
      ref_read r code at g (front cells (cells_of x) s),
      l,
      expr_read x code (at + length cells) 16 h (after cells (cells_of x) s),
      n,
    )

-- ---- lists

-- an effect's first cell
record Begun (xs : List ℕ) : Type 0 where
  tag : ℕ
  others : List ℕ
  are : xs ≡ tag ∷ others
  some : 4 ≤ tag
  most : tag ≤ 20

begun : (e : Effect) → GoodEffect e → Begun (effect_cells e)
unfolding effect_cells GoodEffect
begun (becomes true r) g = record { tag = 4 + length r.args; others = _; are = refl; some = omega arith; most = omega (arith, g.few) }
begun (becomes false r) g = record { tag = 8 + length r.args; others = _; are = refl; some = omega arith; most = omega (arith, g.few) }
begun (changes assign r x) g = record { tag = 12 + length r.args; others = _; are = refl; some = omega arith; most = omega (arith, g.0.few) }
begun (changes raise r x) g = record { tag = 15 + length r.args; others = _; are = refl; some = omega arith; most = omega (arith, g.0.few) }
begun (changes lower r x) g = record { tag = 18 + length r.args; others = _; are = refl; some = omega arith; most = omega (arith, g.0.few) }

-- an effect that stands in the code is read back by its first cell, with the place after it
pub effect_read : (e : Effect) (code : List ℕ) (at : ℕ) → GoodEffect e → Stands code at (effect_cells e)
    → effect_at code at (byte_at code at) ≡ decoded e (at + length (effect_cells e))
unfolding GoodEffect effect_cells
effect_read (becomes yes' r) code at g s = rw (head_is s) (becomes_read yes' r code at g s)
effect_read (changes how r x) code at g s = rw (head_is s) (changes_read how r x code at g.0 g.1 s)

module _ (code : List ℕ) (at : ℕ) where
  end_read_lem : (n : ℕ) → 1 ≤ n → Stands code at (0 ∷ []) → effects_at n code at ≡ decoded [] (at + 1)
  unfolding effects_at begins
  end_read_lem zero h s = absurd (let y : ⊥ = omega arith in y)
  end_read_lem (suc n) h s = rw (below s, head_is s)

  cons_read : {e : Effect} {es : List Effect} (xs ys : List ℕ) (n : ℕ) → Begun xs → Stands code at (xs ++ ys)
      → effect_at code at (byte_at code at) ≡ decoded e (at + length xs)
      → effects_at n code (at + length xs) ≡ decoded es (at + length xs + length ys) → effects_at (suc n) code at ≡ decoded (e ∷ es) (at + length (xs ++ ys))
  unfolding effects_at begins
  cons_read xs ys n b s e r =
      let t : Stands code at (b.tag ∷ (b.others ++ ys)) = rw b.are at s in
      let h = head_is t in
      let k : at + length xs + length ys ≡ at + length (xs ++ ys) = omega (arith, length-append xs ys) in
      let o = rw h at e in
      rw (below t, h, le-ltb b.tag 4 b.some, lt-ltb b.tag 21 (omega (arith, b.most)), o, r, k)

-- a list of effects that stands in the code is read back, in as many steps as it has cells
pub effects_read : (es : List Effect) (code : List ℕ) (at n : ℕ) → length (list_cells es) ≤ n → GoodEffects es → Stands code at (list_cells es)
    → effects_at n code at ≡ decoded es (at + length (list_cells es))
unfolding GoodEffects effects_cells
effects_read [] code at n h g s = end_read_lem code at n h s
effects_read (e ∷ es) code at zero h g s =
    absurd (let y : ⊥ = omega (arith, length-append (effect_cells e ++ effects_cells es) (0 ∷ [])) in y)
effects_read (e ∷ es) code at (suc n) h g s =
    let b = begun e g.0 in
    let t : Stands code at (effect_cells e ++ list_cells es) = rw (append_assoc (effect_cells e) (effects_cells es) (0 ∷ [])) at s in
    let l : length (list_cells es) ≤ n = omega (
      arith,
      ap length (append_assoc (effect_cells e) (effects_cells es) (0 ∷ [])),
      length-append (effect_cells e) (list_cells es),
      ap length b.are,
    ) in
    rw (append_assoc (effect_cells e) (effects_cells es) (0 ∷ []))
    (cons_read code at (effect_cells e) (list_cells es) n b t
    (effect_read e code at g.0 (front (effect_cells e) (list_cells es) t))
    (effects_read es code (at + length (effect_cells e)) n l g.1 (after (effect_cells e) (list_cells es) t)))
