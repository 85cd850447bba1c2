-- An expression has the value it had where all numbers that it reads are what they were; and each of them has its bit in the mask. Assumes nothing.
use mathlib.Core.Path.{◌≡◌, refl, ap, ap₂, subst}
use mathlib.Core.List.{List}
use mathlib.Core.Bool.{Bool, true, false, ◌||◌}
use Prim.Native.Nat.{ℕ, ◌+◌}
use native.Mathlib.Omega.{arith}
use lib.Bits.{bit_or}
use lib.IntN.{ℤ}
use borrow.Author.Tests.{eq-eqb, eqb-true}
use Rattle.domain_meaning.specs.Terms.{Expr, number, value, minus, difference, plus}
use Rattle.happening_meaning.specs.State.{Grounds, defined, number_at, plus_of, less_of, minus_of, number_of}
use Rattle.happening_meaning.specs.Truths.{value_of}
use Rattle.happening_meaning.specs.Writes.{expr_reads}
use Rattle.happening_state.specs.Masks.{number_bit, has}
use Rattle.happening_state.proofs.Bits.{has_bit, has_first, has_second}
use Rattle.happening_expressions.specs.Evaluated.{expr_mask}

pub or_first : (a b : Bool) → a ≡ true → (a || b) ≡ true
or_first a b h = rw h

pub or_second : (a b : Bool) → b ≡ true → (a || b) ≡ true
or_second true b h = refl
or_second false b h = h

module _ (g : Grounds) (os : List ℕ) where
  module _ (ns ms : List ℤ) where
    abbrev pub Agree : (ℕ → Bool) → Type 0
    Agree f = (x : ℕ) → f x ≡ true → number_at ns x ≡ number_at ms x

    pub expr_frame : (e : Expr) → Agree (λ x. expr_reads g os x e) → value_of g ns os e ≡ value_of g ms os e
    unfolding value_of expr_reads
    expr_frame (number z) h = refl
    expr_frame (value r) h = ap defined (h (number_of g os r) (eq-eqb (number_of g os r) (number_of g os r) refl))
    expr_frame (minus e) h = ap minus_of (expr_frame e h)
    expr_frame (difference a b) h =
        ap₂ less_of (expr_frame a (λ x l. h x (or_first (expr_reads g os x a) (expr_reads g os x b) l)))
        (expr_frame b (λ x l. h x (or_second (expr_reads g os x a) (expr_reads g os x b) l)))
    expr_frame (plus a b) h =
        ap₂ plus_of (expr_frame a (λ x l. h x (or_first (expr_reads g os x a) (expr_reads g os x b) l)))
        (expr_frame b (λ x l. h x (or_second (expr_reads g os x a) (expr_reads g os x b) l)))

  -- what one of two parts reads has its bit in the masks joined
  pub either_bit : (x m n : ℕ) (p q : Bool) → (p ≡ true → has m x ≡ true) → (q ≡ true → has n x ≡ true) → (p || q) ≡ true → has (bit_or m n) x ≡ true
  either_bit x m n true q f h e = has_first m n x (f refl)
  either_bit x m n false q f h e = has_second m n x (h e)

  pub expr_bits : (x : ℕ) (e : Expr) → expr_reads g os x e ≡ true → has (expr_mask g os e) (x + 32) ≡ true
  unfolding expr_reads expr_mask
  expr_bits x (number z) h = let o : ◌≡◌ {A = ℕ} 0 1 = cc in absurd (omega arith)
  expr_bits x (value r) h =
      subst (λ (y : ℕ). has (number_bit (number_of g os r)) (y + 32) ≡ true) (eqb-true (number_of g os r) x h) (has_bit (number_of g os r + 32))
  expr_bits x (minus e) h = expr_bits x e h
  expr_bits x (difference a b) h =
      either_bit (x + 32) (expr_mask g os a) (expr_mask g os b) (expr_reads g os x a) (expr_reads g os x b) (expr_bits x a) (expr_bits x b) h
  expr_bits x (plus a b) h =
      either_bit (x + 32) (expr_mask g os a) (expr_mask g os b) (expr_reads g os x a) (expr_reads g os x b) (expr_bits x a) (expr_bits x b) h
