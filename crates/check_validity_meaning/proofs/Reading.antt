-- The tests of what a point reads find exactly what occurs in it. Assumes nothing.
use mathlib.Core.Bool.{Bool, true, false, false≢true}
use mathlib.Core.List.{List, [], ◌∷◌}
use mathlib.Core.Logic.{◌⊎◌, inl, inr}
use mathlib.Core.Path.{◌≡◌, refl, sym, ap, subst}
use Prim.Native.Nat.{ℕ}
use Rattle.domain_meaning.specs.Terms.{Ref, Expr, number, value, minus, difference, plus}
use Rattle.domain_meaning.specs.Conditions.{Cond, Conds, all, atom, same, compare, none, cons}
use Rattle.domain_meaning.specs.Effects.{Change, Effect, becomes, changes}
use Rattle.domain_meaning.specs.Actions.{Lasting, moment, rule}
use Rattle.happening_meaning.specs.State.{Grounds, fact_of, number_of}
use Rattle.happening_meaning.specs.Writes.{some, expr_reads, cond_reads, conds_read, right_reads}
use Rattle.happening_meaning.specs.Happening.{Point, objects_of, conditions_of, effects_of, rule_of, rule_reads, reads_fact, reads_number}
use Rattle.check_validity_meaning.specs.Lists.{◌∈◌}
use Rattle.check_validity_meaning.specs.Reads.{InExpr, NumberIn, NumberInSome, FactIn, FactInSome, ReadsFact, by_condition, ReadsNumber, in_condition}
use Rattle.check_validity_meaning.specs.Reads.{in_duration, in_right_side}
use Rattle.check_validity_meaning.proofs.Finding.{Finds, finds_so, nothing, equal, either}

abbrev Some : {A : Type 0} → (A → Type 0) → List A → Type 0
Some {A} P xs = (x : A) × (x ∈ xs) × P x

one_of : {A : Type 0} {P : A → Type 0} (f : A → Bool) (xs : List A) → ((x : A) → Finds (P x) (f x)) → Finds (Some P xs) (some f xs)
unfolding some
one_of f [] h = finds_so (λ x. absurd x) (λ x. x.1) nothing
one_of {A} {P} f (x ∷ xs) h = finds_so into out (either (h x) (one_of f xs h))
  where
    into : P x ⊎ Some P xs → Some P (x ∷ xs)
    into (inl p) = (x, inl refl, p)
    into (inr q) = (q.0, inr q.1, q.2)

    out : Some P (x ∷ xs) → P x ⊎ Some P xs
    out (y, inl e, p) = inl (subst P e p)
    out (y, inr i, p) = inr (y, i, p)

-- ---- expressions and conditions

module _ (g : Grounds) (os : List ℕ) (x : ℕ) where
  in_expr : (e : Expr) → Finds (InExpr g os x e) (expr_reads g os x e)
  unfolding InExpr expr_reads
  in_expr (number z) = nothing
  in_expr (value r) = equal (number_of g os r) x
  in_expr (minus e) = in_expr e
  in_expr (difference a b) = either (in_expr a) (in_expr b)
  in_expr (plus a b) = either (in_expr a) (in_expr b)

  mutual
    unfolding NumberIn NumberInSome cond_reads conds_read

    number_in_lem : (c : Cond) → Finds (NumberIn g os x c) (cond_reads g os true x c)
    number_in_lem (all cs) = number_in_some cs
    number_in_lem (atom yes' r) = nothing
    number_in_lem (same yes' a b) = nothing
    number_in_lem (compare yes' op a b) = either (in_expr a) (in_expr b)

    number_in_some : (cs : Conds) → Finds (NumberInSome g os x cs) (conds_read g os true x cs)
    number_in_some none = nothing
    number_in_some (cons c cs) = either (number_in_lem c) (number_in_some cs)

  mutual
    unfolding FactIn FactInSome cond_reads conds_read

    fact_in : (c : Cond) → Finds (FactIn g os x c) (cond_reads g os false x c)
    fact_in (all cs) = fact_in_some cs
    fact_in (atom yes' r) = equal (fact_of g os r) x
    fact_in (same yes' a b) = nothing
    fact_in (compare yes' op a b) = nothing

    fact_in_some : (cs : Conds) → Finds (FactInSome g os x cs) (conds_read g os false x cs)
    fact_in_some none = nothing
    fact_in_some (cons c cs) = either (fact_in c) (fact_in_some cs)

  -- ---- a duration rule, a right side

  abbrev InRule : Lasting → Type 0
  InRule l = (e : Expr) × (l ≡ rule e) × InExpr g os x e

  abbrev expr_of : Expr → Lasting → Expr
  expr_of d moment = d
  expr_of d (rule e) = e

  abbrev is_rule : Lasting → Bool
  is_rule moment = false
  is_rule (rule e) = true

  in_rule : (l : Lasting) → Finds (InRule l) (rule_reads g os x l)
  unfolding rule_reads
  in_rule moment = finds_so (λ p. absurd p) (λ h. false≢true (ap is_rule h.1)) nothing
  in_rule (rule e) = finds_so (λ i. (e, refl, i)) (λ h. subst (InExpr g os x) (sym (ap (expr_of e) h.1)) h.2) (in_expr e)

  abbrev InRight : Effect → Type 0
  InRight f = (how : Change) × (r : Ref) × (e : Expr) × (f ≡ changes how r e) × InExpr g os x e

  abbrev right_of : Expr → Effect → Expr
  right_of d (becomes yes' r) = d
  right_of d (changes how r e) = e

  abbrev is_change : Effect → Bool
  is_change (becomes yes' r) = false
  is_change (changes how r e) = true

  in_right : (f : Effect) → Finds (InRight f) (right_reads g os x f)
  unfolding right_reads
  in_right (becomes yes' r) = finds_so (λ p. absurd p) (λ h. false≢true (ap is_change h.3)) nothing
  in_right (changes how r e) = finds_so (λ i. (how, r, e, refl, i)) (λ h. subst (InExpr g os x) (sym (ap (right_of e) h.3)) h.4) (in_expr e)

-- ---- a point

module _ (g : Grounds) (p : Point) (x : ℕ) where
  pub reads_fact_lem : Finds (ReadsFact g p x) (reads_fact g p x)
  unfolding reads_fact
  reads_fact_lem = finds_so (λ h. by_condition h.0 h.1 h.2) out (one_of (cond_reads g (objects_of p) false x) (conditions_of p) (fact_in g (objects_of p) x))
    where
      out : ReadsFact g p x → Some (FactIn g (objects_of p) x) (conditions_of p)
      out (by_condition c i h) = (c, i, h)

  abbrev Read : Type 0
  Read =
      (Some (NumberIn g (objects_of p) x) (conditions_of p) ⊎ InRule g (objects_of p) x (rule_of p))
      ⊎ Some (InRight g (objects_of p) x) (effects_of p)

  pub reads_number_lem : Finds (ReadsNumber g p x) (reads_number g p x)
  unfolding reads_number
  reads_number_lem =
      finds_so into out
      (either (either (one_of (cond_reads g (objects_of p) true x) (conditions_of p) (number_in_lem g (objects_of p) x)) (in_rule g (objects_of p) x (rule_of p)))
      (one_of (right_reads g (objects_of p) x) (effects_of p) (in_right g (objects_of p) x)))
    where
      into : Read → ReadsNumber g p x
      into (inl (inl h)) = in_condition h.0 h.1 h.2
      into (inl (inr h)) = in_duration h.0 h.1 h.2
      into (inr h) = in_right_side h.2.0 h.2.1 h.2.2 (subst (λ (f : Effect). f ∈ effects_of p) h.2.3 h.1) h.2.4

      out : ReadsNumber g p x → Read
      out (in_condition c i h) = inl (inl (c, i, h))
      out (in_duration e q h) = inl (inr (e, q, h))
      out (in_right_side how r e i h) = inr (changes how r e, i, (how, r, e, refl, h))
