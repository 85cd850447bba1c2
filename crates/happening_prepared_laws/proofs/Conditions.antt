-- Prepared expressions and conditions have the values and the truth of those that they are made of, and read the same. Assumes nothing.
use Prim.Native.Nat.{ℕ}
use mathlib.Core.Path.{◌≡◌, refl, sym, ap, ap₂, ◌∙◌}
use mathlib.Core.List.{List, [], ◌∷◌, ◌++◌, map, map-append}
use mathlib.Core.Bool.{Bool, false, cond, ◌||◌, or_assoc, or-false}
use lib.Dec.{eqb}
use lib.IntN.{ℤ}
use Rattle.domain_meaning.specs.Terms.{Ref, Expr, number, value, minus, difference, plus}
use Rattle.domain_meaning.specs.Conditions.{Cond, Conds, all, atom, same, compare, none, cons}
use Rattle.domain_prepared_meaning.specs.Preparing.{singles, singles_of, all_singles, fact_ref, number_ref, expr, test, conds_of}
use Rattle.domain_prepared_meaning.proofs.Index.{prepared_index}
use Rattle.happening_meaning.specs.State.{State, Grounds, is_true, stored, fact_of, number_of, plus_of, less_of, minus_of}
use Rattle.happening_meaning.specs.Truths.{value_of, agrees, compared_of, and_then, truth_of, truths_of, hold_all}
use Rattle.happening_meaning.specs.Writes.{some, expr_reads, cond_reads, conds_read}
use Rattle.happening_meaning.specs.declared.Truth.{Truth}
use Rattle.happening_meaning.specs.declared.Truth.TheVariants.{Holds, Fails, Undefined, Range}
use Rattle.happening_prepared_laws.specs.Summed.{summed}

-- ---- lists: one condition after the other

and_holds : (t : Truth) → and_then t Holds ≡ t
unfolding and_then
and_holds Holds = refl
and_holds Fails = refl
and_holds Undefined = refl
and_holds Range = refl

and_assoc : (t u v : Truth) → and_then (and_then t u) v ≡ and_then t (and_then u v)
unfolding and_then
and_assoc Holds u v = refl
and_assoc Fails u v = refl
and_assoc Undefined u v = refl
and_assoc Range u v = refl

module _ (g : Grounds) (s : State) (os : List ℕ) where
  pub hold_append : (xs ys : List Cond) → hold_all g s os (xs ++ ys) ≡ and_then (hold_all g s os xs) (hold_all g s os ys)
  unfolding hold_all and_then
  hold_append [] ys = refl
  hold_append (x ∷ xs) ys =
      ap (and_then (truth_of g s os x)) (hold_append xs ys) ∙ sym (and_assoc (truth_of g s os x) (hold_all g s os xs) (hold_all g s os ys))

  -- as the parts of an `and`
  pub conds_hold : (xs : List Cond) → truths_of g s os (conds_of xs) ≡ hold_all g s os xs
  unfolding truths_of hold_all conds_of
  conds_hold [] = refl
  conds_hold (x ∷ xs) = ap (and_then (truth_of g s os x)) (conds_hold xs)

pub some_append : {A : Type 0} (f : A → Bool) (xs ys : List A) → some f (xs ++ ys) ≡ (some f xs || some f ys)
unfolding some
some_append f [] ys = refl
some_append f (x ∷ xs) ys = ap (λ (b : Bool). f x || b) (some_append f xs ys) ∙ sym (or_assoc (f x) (some f xs) (some f ys))

-- ---- with n objects, the first indexes of predicates (ps) and of functions (fs)

module _ (n : ℕ) (ps fs : List ℕ) where
  abbrev pub grounds : Grounds
  grounds = record { objects = n; facts = ps; numbers = fs }

  module _ (os : List ℕ) where
    pub fact_same : (r : Ref) → fact_of summed os (fact_ref n ps fs r) ≡ fact_of grounds os r
    fact_same r = prepared_index n ps os r

    pub number_same : (r : Ref) → number_of summed os (number_ref n ps fs r) ≡ number_of grounds os r
    number_same r = prepared_index n fs os r

    pub value_same : (ns : List ℤ) (e : Expr) → value_of summed ns os (expr n ps fs e) ≡ value_of grounds ns os e
    unfolding value_of expr
    value_same ns (number z) = refl
    value_same ns (value r) = ap (stored ns) (number_same r)
    value_same ns (minus a) = ap minus_of (value_same ns a)
    value_same ns (difference a b) = ap₂ less_of (value_same ns a) (value_same ns b)
    value_same ns (plus a b) = ap₂ plus_of (value_same ns a) (value_same ns b)

    pub expr_reads_lem : (x : ℕ) (e : Expr) → expr_reads summed os x (expr n ps fs e) ≡ expr_reads grounds os x e
    unfolding expr_reads expr
    expr_reads_lem x (number z) = refl
    expr_reads_lem x (value r) = ap (λ (i : ℕ). eqb i x) (number_same r)
    expr_reads_lem x (minus a) = expr_reads_lem x a
    expr_reads_lem x (difference a b) = ap₂ ◌||◌ (expr_reads_lem x a) (expr_reads_lem x b)
    expr_reads_lem x (plus a b) = ap₂ ◌||◌ (expr_reads_lem x a) (expr_reads_lem x b)

  -- ---- truth

  module _ (s : State) (os : List ℕ) where
    mutual
      unfolding singles test truth_of hold_all

      pub single_truth : (c : Cond) → hold_all summed s os (map (test n ps fs) (singles c)) ≡ truth_of grounds s os c
      single_truth (all cs) = singles_truth cs
      single_truth (atom yes' r) =
          and_holds (truth_of summed s os (test n ps fs (atom yes' r))) ∙ ap (λ (i : ℕ). agrees yes' (is_true s.facts i)) (fact_same os r)
      single_truth (same yes' a b) = and_holds (truth_of summed s os (same yes' a b))
      single_truth (compare yes' op a b) =
          and_holds (truth_of summed s os (test n ps fs (compare yes' op a b)))
          ∙ ap₂ (compared_of yes' op) (value_same os s.numbers a) (value_same os s.numbers b)

      pub singles_truth : (cs : Conds) → hold_all summed s os (map (test n ps fs) (singles_of cs)) ≡ truths_of grounds s os cs
      singles_truth none = refl
      singles_truth (cons c cs) =
          ap (hold_all summed s os) (map-append (test n ps fs) (singles c) (singles_of cs))
          ∙ hold_append summed s os (map (test n ps fs) (singles c)) (map (test n ps fs) (singles_of cs))
          ∙ ap₂ and_then (single_truth c) (singles_truth cs)

    -- a list of conditions holds as the list of its single ones
    pub all_hold : (cs : List Cond) → hold_all summed s os (map (test n ps fs) (all_singles cs)) ≡ hold_all grounds s os cs
    unfolding all_singles hold_all
    all_hold [] = refl
    all_hold (c ∷ cs) =
        ap (hold_all summed s os) (map-append (test n ps fs) (singles c) (all_singles cs))
        ∙ hold_append summed s os (map (test n ps fs) (singles c)) (map (test n ps fs) (all_singles cs))
        ∙ ap₂ and_then (single_truth c) (all_hold cs)

  -- ---- what is read

  module _ (os : List ℕ) (numeric : Bool) (x : ℕ) where
    mutual
      unfolding singles test cond_reads some

      pub single_reads : (c : Cond) → some (cond_reads summed os numeric x) (map (test n ps fs) (singles c)) ≡ cond_reads grounds os numeric x c
      single_reads (all cs) = singles_read cs
      single_reads (atom yes' r) =
          or-false (cond_reads summed os numeric x (test n ps fs (atom yes' r))) ∙ ap (λ (i : ℕ). cond numeric false (eqb i x)) (fact_same os r)
      single_reads (same yes' a b) = refl
      single_reads (compare yes' op a b) =
          or-false (cond_reads summed os numeric x (test n ps fs (compare yes' op a b)))
          ∙ ap₂ (λ (p q : Bool). cond numeric (p || q) false) (expr_reads_lem os x a) (expr_reads_lem os x b)

      pub singles_read : (cs : Conds) → some (cond_reads summed os numeric x) (map (test n ps fs) (singles_of cs)) ≡ conds_read grounds os numeric x cs
      singles_read none = refl
      singles_read (cons c cs) =
          ap (some (cond_reads summed os numeric x)) (map-append (test n ps fs) (singles c) (singles_of cs))
          ∙ some_append (cond_reads summed os numeric x) (map (test n ps fs) (singles c)) (map (test n ps fs) (singles_of cs))
          ∙ ap₂ ◌||◌ (single_reads c) (singles_read cs)

    pub all_read : (cs : List Cond)
        → some (cond_reads summed os numeric x) (map (test n ps fs) (all_singles cs)) ≡ some (cond_reads grounds os numeric x) cs
    unfolding all_singles some
    all_read [] = refl
    all_read (c ∷ cs) =
        ap (some (cond_reads summed os numeric x)) (map-append (test n ps fs) (singles c) (all_singles cs))
        ∙ some_append (cond_reads summed os numeric x) (map (test n ps fs) (singles c)) (map (test n ps fs) (all_singles cs))
        ∙ ap₂ ◌||◌ (single_reads c) (all_read cs)
