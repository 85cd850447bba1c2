-- Conditions have the truth they had where nothing that they read was touched; and what they read has its bit in their mask. Assumes nothing.
use mathlib.Core.Path.{◌≡◌, refl, ap, ap₂, subst}
use mathlib.Core.List.{List, [], ◌∷◌}
use mathlib.Core.Bool.{Bool, true, false, ◌||◌}
use Prim.Native.Nat.{ℕ, ◌+◌}
use native.Mathlib.Omega.{arith}
use lib.Bits.{bit_and, bit_or}
use borrow.Author.Tests.{eq-eqb, eqb-true}
use Rattle.domain_meaning.specs.Conditions.{Cond, Conds, all, atom, same, compare, none, cons}
use Rattle.domain_prepared_meaning.specs.Preparing.{conds_of}
use Rattle.happening_meaning.specs.State.{State, Grounds, is_true, number_at, fact_of}
use Rattle.happening_meaning.specs.Truths.{agrees, compared_of, truth_of, truths_of, and_then, hold_all}
use Rattle.happening_meaning.specs.Writes.{some, expr_reads, cond_reads, conds_read}
use Rattle.happening_state.specs.Masks.{fact_bit, has, Touched}
use Rattle.happening_state.proofs.Bits.{has_bit, has_first, has_second, has_not}
use Rattle.happening_expressions.specs.Evaluated.{expr_mask}
use Rattle.happening_expressions.proofs.Framing.{or_first, or_second, expr_frame, either_bit, expr_bits}
use Rattle.happening_tests.specs.Reading.{cond_mask, conds_mask, mask_from, mask_of}

module _ (g : Grounds) (os : List ℕ) where
  -- ---- states that agree in what is read

  module _ (s t : State) where
    -- in facts (false) or numbers (true)
    abbrev pub Same : Bool → ℕ → Type 0
    Same false x = is_true s.facts x ≡ is_true t.facts x
    Same true x = number_at s.numbers x ≡ number_at t.numbers x

    abbrev pub Agree : (Bool → ℕ → Bool) → Type 0
    Agree f = (numeric : Bool) (x : ℕ) → f numeric x ≡ true → Same numeric x

    mutual
      unfolding truth_of truths_of cond_reads conds_read

      pub cond_frame : (c : Cond) → Agree (λ n x. cond_reads g os n x c) → truth_of g s os c ≡ truth_of g t os c
      cond_frame (all cs) h = conds_frame cs h
      cond_frame (atom w r) h = ap (agrees w) (h false (fact_of g os r) (eq-eqb (fact_of g os r) (fact_of g os r) refl))
      cond_frame (same w a b) h = refl
      cond_frame (compare w op a b) h =
          ap₂ (compared_of w op)
          (expr_frame g os s.numbers t.numbers a (λ x l. h true x (or_first (expr_reads g os x a) (expr_reads g os x b) l)))
          (expr_frame g os s.numbers t.numbers b (λ x l. h true x (or_second (expr_reads g os x a) (expr_reads g os x b) l)))

      pub conds_frame : (cs : Conds) → Agree (λ n x. conds_read g os n x cs) → truths_of g s os cs ≡ truths_of g t os cs
      conds_frame none h = refl
      conds_frame (cons c cs) h =
          ap₂ and_then (cond_frame c (λ n x l. h n x (or_first (cond_reads g os n x c) (conds_read g os n x cs) l)))
          (conds_frame cs (λ n x l. h n x (or_second (cond_reads g os n x c) (conds_read g os n x cs) l)))

    pub hold_frame : (cs : List Cond) → Agree (λ n x. some (cond_reads g os n x) cs) → hold_all g s os cs ≡ hold_all g t os cs
    unfolding hold_all some
    hold_frame [] h = refl
    hold_frame (c ∷ cs) h =
        ap₂ and_then (cond_frame c (λ n x l. h n x (or_first (cond_reads g os n x c) (some (cond_reads g os n x) cs) l)))
        (hold_frame cs (λ n x l. h n x (or_second (cond_reads g os n x c) (some (cond_reads g os n x) cs) l)))

  -- ---- bits

  -- where the bit of a fact or number is
  abbrev pub place : Bool → ℕ → ℕ
  place false x = x
  place true x = x + 32

  nowhere : {A : Type 0} → false ≡ true → A
  nowhere e = let o : ◌≡◌ {A = ℕ} 0 1 = cc in absurd (omega arith)

  mutual
    unfolding cond_reads conds_read cond_mask conds_mask

    pub cond_bits : (n : Bool) (x : ℕ) (c : Cond) → cond_reads g os n x c ≡ true → has (cond_mask g os c) (place n x) ≡ true
    cond_bits n x (all cs) h = conds_bits n x cs h
    cond_bits true x (atom w r) h = nowhere h
    cond_bits false x (atom w r) h =
        subst (λ (y : ℕ). has (fact_bit (fact_of g os r)) y ≡ true) (eqb-true (fact_of g os r) x h) (has_bit (fact_of g os r))
    cond_bits n x (same w a b) h = nowhere h
    cond_bits true x (compare w op a b) h =
        either_bit g os (x + 32) (expr_mask g os a) (expr_mask g os b) (expr_reads g os x a) (expr_reads g os x b) (expr_bits g os x a) (expr_bits g os x b) h
    cond_bits false x (compare w op a b) h = nowhere h

    pub conds_bits : (n : Bool) (x : ℕ) (cs : Conds) → conds_read g os n x cs ≡ true → has (conds_mask g os cs) (place n x) ≡ true
    conds_bits n x none h = nowhere h
    conds_bits n x (cons c cs) h =
        either_bit g os (place n x) (cond_mask g os c) (conds_mask g os cs) (cond_reads g os n x c) (conds_read g os n x cs)
        (λ l. cond_bits n x c l) (λ l. conds_bits n x cs l) h

  more : (x m : ℕ) (cs : List Cond) → has m x ≡ true → has (mask_from g os m cs) x ≡ true
  unfolding mask_from
  more x m [] h = h
  more x m (c ∷ cs) h = more x (bit_or m (cond_mask g os c)) cs (has_first m (cond_mask g os c) x h)

  pub list_bits : (n : Bool) (x m : ℕ) (cs : List Cond) → some (cond_reads g os n x) cs ≡ true → has (mask_from g os m cs) (place n x) ≡ true
  unfolding mask_from some
  list_bits n x m [] h = nowhere h
  list_bits n x m (c ∷ cs) h = go (cond_reads g os n x c) refl h (list_bits n x (bit_or m (cond_mask g os c)) cs)
    where
      go : (b : Bool) → cond_reads g os n x c ≡ b → (b || some (cond_reads g os n x) cs) ≡ true
          → (some (cond_reads g os n x) cs ≡ true → has (mask_from g os (bit_or m (cond_mask g os c)) cs) (place n x) ≡ true)
          → has (mask_from g os (bit_or m (cond_mask g os c)) cs) (place n x) ≡ true
      go true e l ih = more (place n x) (bit_or m (cond_mask g os c)) cs (has_second m (cond_mask g os c) (place n x) (cond_bits n x c e))
      go false e l ih = ih l

  -- ---- the law of masks: two states that differ only in what has a bit in w, and conditions that read nothing with a bit in w

  pub unmasked : (w : ℕ) (s t : State) (cs : List Cond) → Touched w s t → bit_and (mask_of g os cs) w ≡ 0 → hold_all g s os cs ≡ hold_all g t os cs
  unmasked w s t cs d e = hold_frame s t cs agree
    where
      agree : Agree s t (λ n x. some (cond_reads g os n x) cs)
      agree false x h = d.facts x (has_not (mask_of g os cs) w x e (list_bits false x 0 cs h))
      agree true x h = d.numbers x (has_not (mask_of g os cs) w (x + 32) e (list_bits true x 0 cs h))

  -- ---- the conditions of an `and` as a list

  pub all_holds : (s : State) (cs : List Cond) → truth_of g s os (all (conds_of cs)) ≡ hold_all g s os cs
  unfolding truth_of truths_of conds_of hold_all
  all_holds s [] = refl
  all_holds s (c ∷ cs) = ap (and_then (truth_of g s os c)) (all_holds s cs)
