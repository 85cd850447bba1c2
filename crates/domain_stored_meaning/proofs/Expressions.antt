-- References and expressions that stand in the code are read back. Assumes nothing.
use mathlib.Core.Path.{◌≡◌, refl, ap}
use mathlib.Core.List.{List, [], ◌∷◌, ◌++◌}
use Prim.Native.Nat.{ℕ, zero, suc, ◌+◌, ◌-◌}
use native.Mathlib.Omega.{arith}
use lib.ListN.{length, length-append}
use borrow.Author.Tests.{lt-ltb, le-ltb, ne_eqb}
use Rattle.domain_meaning.specs.Terms.{Arg, object, variable, Ref, Expr, number, value, minus, difference, plus}
use Rattle.domain_terms.specs.Cells.{cell_of, arg_cells}
use Rattle.domain_expressions.specs.Codes.{ref_cells, cells_of}
use Rattle.domain_stored_meaning.specs.Decode.{decoded, arg_of, args_at, ref_at, leaf_at, expr_node, expr_at}
use Rattle.domain_stored_meaning.specs.Good.{GoodArg, GoodArgs, GoodRef, GoodExpr}
use Rattle.domain_stored_meaning.proofs.Standing.{Stands, below, head_is, behind, front, after}
use Rattle.domain_stored_meaning.proofs.Numbers.{number_read}

-- ---- arguments and references

pub arg_back : (a : Arg) → GoodArg a → arg_of (cell_of a) ≡ a
unfolding arg_of GoodArg
arg_back (object i) g = rw (lt-ltb i 64 g)
arg_back (variable i) g =
    let e : 64 + i - 64 ≡ i = omega arith in
    rw (le-ltb (64 + i) 64 (omega arith), e)

args_read : (xs : List Arg) (code : List ℕ) (at : ℕ) → GoodArgs xs → Stands code at (arg_cells xs) → args_at code at (length xs) ≡ xs
unfolding args_at GoodArgs
args_read [] code at g s = refl
args_read (a ∷ xs) code at g s = rw (head_is s, arg_back a g.0, args_read xs code (at + 1) g.1 (behind s))

args_length : (xs : List Arg) → length (arg_cells xs) ≡ length xs
args_length [] = refl
args_length (a ∷ xs) = ap suc (args_length xs)

pub ref_length : (tag : ℕ) (r : Ref) → length (ref_cells tag r) ≡ 2 + length r.args
ref_length tag r = omega (arith, args_length r.args)

-- after the tag
pub ref_read : {most tag : ℕ} (r : Ref) (code : List ℕ) (at : ℕ) → GoodRef most r → Stands code at (tag ∷ r.head ∷ arg_cells r.args)
    → ref_at code (at + 1) (length r.args) ≡ r
unfolding ref_at
ref_read r code at g s = let t = behind s in rw (head_is t, args_read r.args code (at + 1 + 1) g.args (behind t))

-- ---- expressions

value_read : (r : Ref) (code : List ℕ) (at d : ℕ) → GoodRef 2 r → Stands code at (ref_cells 5 r)
    → expr_at (suc d) code at ≡ decoded (value r) (at + length (ref_cells 5 r))
unfolding expr_at expr_node leaf_at
value_read r code at d g s =
    let k = length r.args in
    let e : 5 + k - 5 ≡ k = omega arith in
    let n : at + 2 + k ≡ at + length (ref_cells 5 r) = omega (arith, ref_length 5 r) in
    rw (
      below s,
      head_is s,
      ne_eqb (5 + k) 0 (λ i. omega arith),
      ne_eqb (5 + k) 1 (λ i. omega arith),
      ne_eqb (5 + k) 2 (λ i. omega arith),
      le-ltb (5 + k) 5 (omega arith),
      lt-ltb (5 + k) 8 (omega (arith, g.few)),
      e,
      ref_read r code at g s,
      n,
    )

module _ (code : List ℕ) (at d : ℕ) where
  one_read : {a : Expr} {xs : List ℕ} → Stands code at (0 ∷ xs) → expr_at d code (at + 1) ≡ decoded a (at + 1 + length xs)
      → expr_at (suc d) code at ≡ decoded (minus a) (at + length (0 ∷ xs))
  unfolding expr_at expr_node
  one_read {a} {xs} s e =
      let n : at + 1 + length xs ≡ at + length (0 ∷ xs) = omega arith in
      rw (below s, head_is s, e, n)

  less_read : {a b : Expr} (xs ys : List ℕ) → Stands code at (1 ∷ (xs ++ ys)) → expr_at d code (at + 1) ≡ decoded a (at + 1 + length xs)
      → expr_at d code (at + 1 + length xs) ≡ decoded b (at + 1 + length xs + length ys)
      → expr_at (suc d) code at ≡ decoded (difference a b) (at + length (1 ∷ (xs ++ ys)))
  unfolding expr_at expr_node
  less_read xs ys s e f =
      let n : at + 1 + length xs + length ys ≡ at + length (1 ∷ (xs ++ ys)) = omega (arith, length-append xs ys) in
      simp (below s, head_is s, e, f, n)

  plus_read : {a b : Expr} (xs ys : List ℕ) → Stands code at (2 ∷ (xs ++ ys)) → expr_at d code (at + 1) ≡ decoded a (at + 1 + length xs)
      → expr_at d code (at + 1 + length xs) ≡ decoded b (at + 1 + length xs + length ys)
      → expr_at (suc d) code at ≡ decoded (plus a b) (at + length (2 ∷ (xs ++ ys)))
  unfolding expr_at expr_node
  plus_read xs ys s e f =
      let n : at + 1 + length xs + length ys ≡ at + length (2 ∷ (xs ++ ys)) = omega (arith, length-append xs ys) in
      simp (below s, head_is s, e, f, n)

-- an expression that stands in the code is read back, with the place after it
pub expr_read : (x : Expr) (code : List ℕ) (at d : ℕ) → GoodExpr d x → Stands code at (cells_of x) → expr_at d code at ≡ decoded x (at + length (cells_of x))
unfolding GoodExpr cells_of
expr_read x code at zero g s = absurd g
expr_read (number z) code at (suc d) g s = number_read z code at d g s
expr_read (value r) code at (suc d) g s = value_read r code at d g s
expr_read (minus a) code at (suc d) g s = one_read code at d s (expr_read a code (at + 1) d g (behind s))
expr_read (difference a b) code at (suc d) g s =
    let t = behind s in
    less_read code at d (cells_of a) (cells_of b) s
    (expr_read a code (at + 1) d g.0 (front (cells_of a) (cells_of b) t))
    (expr_read b code (at + 1 + length (cells_of a)) d g.1 (after (cells_of a) (cells_of b) t))
expr_read (plus a b) code at (suc d) g s =
    let t = behind s in
    plus_read code at d (cells_of a) (cells_of b) s
    (expr_read a code (at + 1) d g.0 (front (cells_of a) (cells_of b) t))
    (expr_read b code (at + 1 + length (cells_of a)) d g.1 (after (cells_of a) (cells_of b) t))
