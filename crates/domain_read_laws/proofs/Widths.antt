-- The most bytes that the prepared rows of a tree have: six for an operand and for a fact, one for an operator, three for an equality of objects.
-- So an expression of 16 operators and operands has at most 56, and a single condition at most 113. Assumes nothing.
use mathlib.Core.List.{List}
use mathlib.Core.Bool.{Bool, true, false, cond}
use Prim.Native.Nat.{ℕ, zero, suc, ◌+◌, ◌*◌, ◌/◌, ◌%◌, ◌≤◌}
use native.Mathlib.Omega.{arith}
use lib.Dec.{eqb}
use lib.IntN.{ℤ, nat_abs}
use lib.ListN.{length, length-append}
use Rattle.domain_meaning.specs.Terms.{Expr, number, value, minus, difference, plus}
use Rattle.domain_meaning.specs.Conditions.{Cond, Conds, all, atom, same, compare, none, cons}
use Rattle.domain_literals.specs.Literal.{sign_base, literal, number_cells}
use Rattle.domain_literals.proofs.Cells.{literal_length}
use Rattle.domain_expressions.proofs.Sizes.{size_all}
use Rattle.domain_stored_meaning.specs.Good.{GoodExpr, GoodCond, GoodConds}
use Rattle.domain_prepared_meaning.specs.Preparing.{singles, singles_of}
use Rattle.domain_prepared_meaning.specs.Rows.{expr_bytes, test_bytes, tests_bytes}
use Rattle.domain_read_laws.proofs.Named.{of_below}
use Rattle.domain_read_laws.proofs.Rows.{form_size, tests_join, one_test, no_test}

-- its operators and operands, as they are counted
unfoldable pub expr_count : Expr → ℕ
expr_count (number z) = 1
expr_count (value r) = 1
expr_count (minus a) = 1 + expr_count a
expr_count (difference a b) = 1 + (expr_count a + expr_count b)
expr_count (plus a b) = 1 + (expr_count a + expr_count b)

unfoldable pub operands : Expr → ℕ
operands (number z) = 1
operands (value r) = 1
operands (minus a) = operands a
operands (difference a b) = operands a + operands b
operands (plus a b) = operands a + operands b

abbrev pub expr_width_lem : Expr → ℕ
expr_width_lem x = expr_count x + 5 * operands x

unfoldable mutual
  pub cond_width : Cond → ℕ
  cond_width (all cs) = conds_width cs
  cond_width (atom yes' r) = 6
  cond_width (same yes' a b) = 3
  cond_width (compare yes' op a b) = 1 + (expr_width_lem a + expr_width_lem b)

  pub conds_width : Conds → ℕ
  conds_width none = 0
  conds_width (cons c cs) = cond_width c + conds_width cs

-- ---- of 16 at most 8 are operands

operands_few : (x : Expr) → 2 * operands x ≤ expr_count x + 1
unfolding expr_count operands
operands_few (number z) = omega arith
operands_few (value r) = omega arith
operands_few (minus a) = omega (arith, operands_few a)
operands_few (difference a b) = omega (arith, operands_few a, operands_few b)
operands_few (plus a b) = omega (arith, operands_few a, operands_few b)

pub expr_narrow : (x : Expr) → expr_count x ≤ 16 → expr_width_lem x ≤ 56
expr_narrow x h = omega (arith, operands_few x)

-- ---- rows are no longer

number_width : (z : ℤ) → length (number_cells z) ≤ 6
unfolding number_cells
number_width z = go (eqb (nat_abs z % 1000) 0)
  where
    go : (t : Bool) → length (cond t (literal (sign_base z + 16) (nat_abs z / 1000)) (literal (sign_base z) (nat_abs z))) ≤ 6
    go true = omega (arith, literal_length (sign_base z + 16) (nat_abs z / 1000), size_all (nat_abs z / 1000))
    go false = omega (arith, literal_length (sign_base z) (nat_abs z), size_all (nat_abs z))

module _ (n : ℕ) (ps fs : List ℕ) where
  expr_width : (d : ℕ) (x : Expr) → GoodExpr d x → length (expr_bytes n ps fs x) ≤ expr_width_lem x
  unfolding GoodExpr expr_bytes expr_count operands
  expr_width zero x h = absurd h
  expr_width (suc d) (number z) h = omega (arith, number_width z)
  expr_width (suc d) (value r) h = omega (arith, form_size n ps fs 5 fs r, h.few)
  expr_width (suc d) (minus a) h = omega (arith, expr_width d a h)
  expr_width (suc d) (difference a b) h =
      omega (arith, expr_width d a h.0, expr_width d b h.1, length-append (expr_bytes n ps fs a) (expr_bytes n ps fs b))
  expr_width (suc d) (plus a b) h =
      omega (arith, expr_width d a h.0, expr_width d b h.1, length-append (expr_bytes n ps fs a) (expr_bytes n ps fs b))

  -- the single conditions of a condition, with the end of their list
  mutual
    unfolding GoodCond GoodConds singles singles_of test_bytes cond_width conds_width

    pub singles_width : (c : Cond) (d : ℕ) → GoodCond d c → length (tests_bytes n ps fs (singles c)) ≤ cond_width c + 1
    singles_width (all cs) d h = of_below _ d (λ e g. singles_of_width cs e g) h
    singles_width (atom yes' r) d h =
        of_below _ d (λ e g. omega (arith, one_test n ps fs (atom yes' r), form_size n ps fs (cond yes' 4 8) ps r, g.few)) h
    singles_width (same yes' a b) d h = omega (arith, one_test n ps fs (same yes' a b))
    singles_width (compare yes' op a b) d h =
        of_below _ d
        (λ e g. omega (
          arith,
          one_test n ps fs (compare yes' op a b),
          expr_width 16 a g.0,
          expr_width 16 b g.1,
          length-append (expr_bytes n ps fs a) (expr_bytes n ps fs b),
        ))
        h

    singles_of_width : (cs : Conds) (d : ℕ) → GoodConds d cs → length (tests_bytes n ps fs (singles_of cs)) ≤ conds_width cs + 1
    singles_of_width none d h = omega (arith, no_test n ps fs)
    singles_of_width (cons c cs) d h =
        omega (arith, singles_width c d h.0, singles_of_width cs d h.1, tests_join n ps fs (singles c) (singles_of cs))
