-- The truth of a condition is judged exactly so: it holds, or the first part of it that doesn't is named. Assumes nothing.
use mathlib.Core.Bool.{Bool, true, false, true≢false, false≢true}
use mathlib.Core.List.{List, [], ◌∷◌}
use mathlib.Core.Path.{◌≡◌, refl, subst, ap, ◌∙◌}
use Prim.Native.Nat.{ℕ}
use lib.Dec.{eqb}
use Rattle.domain_meaning.specs.Conditions.{Comparison, Cond, Conds, all, atom, same, compare, none, cons}
use Rattle.happening_meaning.specs.State.{State, Grounds, is_true, fact_of}
use Rattle.domain_meaning.specs.Indexes.{object_of}
use Rattle.happening_meaning.specs.Truths.{value_of, agrees, compared, compared_of, and_then, truth_of, truths_of, hold_all}
use Rattle.happening_meaning.specs.Happening.{is_done, unless, each, judged}
use Rattle.happening_meaning.specs.declared.Value.{Value}
use Rattle.happening_meaning.specs.declared.Value.TheVariants as Is
use Rattle.happening_meaning.specs.declared.Truth.{Truth}
use Rattle.happening_meaning.specs.declared.Truth.TheVariants as T
use Rattle.happening_meaning.specs.declared.Outcome.{Outcome}
use Rattle.check_validity_meaning.specs.Lists.{All}
use Rattle.check_validity_meaning.specs.Satisfied.{Holds, EachHolds, NotSo, FirstPart, FirstNotSo}
use Rattle.check_validity_meaning.proofs.Deciding.{Decides, always, holds, fails, then, each_decides}
use Rattle.check_validity_meaning.proofs.Values.{onward, onward_decides, value_tells}

module _ (word : Outcome) (l : ℕ) (f : is_done word ≡ false) where
  -- as it is written, or under `not`
  agrees_decides : (yes' b : Bool) → Decides (b ≡ yes') (λ w. ¬ (b ≡ yes') × (w ≡ word)) (judged word l (agrees yes' b))
  unfolding judged agrees
  agrees_decides true true = holds refl
  agrees_decides true false = fails f false≢true
  agrees_decides false true = fails f true≢false
  agrees_decides false false = holds refl

  compared_onward : (yes' : Bool) (op : Comparison) (v u : Value)
      → onward l v (λ x. onward l u (λ y. judged word l (agrees yes' (compared op x y)))) ≡ judged word l (compared_of yes' op v u)
  unfolding judged compared_of
  compared_onward yes' op (Is.Number x) (Is.Number y) = refl
  compared_onward yes' op (Is.Number x) Is.Undefined = refl
  compared_onward yes' op (Is.Number x) Is.Range = refl
  compared_onward yes' op Is.Undefined u = refl
  compared_onward yes' op Is.Range u = refl

  none_judged : Decides Unit (λ w. ⊥) (judged word l T.Holds)
  unfolding judged
  none_judged = always

  -- one after the other
  judged_then : (t u : Truth) → unless (judged word l t) (judged word l u) ≡ judged word l (and_then t u)
  unfolding judged unless and_then
  judged_then T.Holds u = refl
  judged_then T.Fails u = rw f
  judged_then T.Undefined u = refl
  judged_then T.Range u = refl

  module _ (g : Grounds) (s : State) (os : List ℕ) where
    mutual
      unfolding truth_of truths_of Holds EachHolds NotSo FirstPart

      pub judged_decides : (c : Cond) → Decides (Holds g s os c) (NotSo g s os word l c) (judged word l (truth_of g s os c))
      judged_decides (all cs) = parts_decide cs
      judged_decides (atom yes' r) = agrees_decides yes' (is_true s.facts (fact_of g os r))
      judged_decides (same yes' a b) = agrees_decides yes' (eqb (object_of os a) (object_of os b))
      judged_decides (compare yes' op a b) =
          let v = value_of g s.numbers os a in
          let u = value_of g s.numbers os b in
          subst (Decides (Holds g s os (compare yes' op a b)) (NotSo g s os word l (compare yes' op a b))) (compared_onward yes' op v u)
          (onward_decides l (λ x. onward l u (λ y. judged word l (agrees yes' (compared op x y)))) v (value_tells g s.numbers os l a)
          (λ x. onward_decides l (λ y. judged word l (agrees yes' (compared op x y))) u (value_tells g s.numbers os l b)
          (λ y. agrees_decides yes' (compared op x y))))

      parts_decide : (cs : Conds) → Decides (EachHolds g s os cs) (FirstPart g s os word l cs) (judged word l (truths_of g s os cs))
      parts_decide none = none_judged
      parts_decide (cons c cs) =
          subst (Decides (EachHolds g s os (cons c cs)) (FirstPart g s os word l (cons c cs))) (judged_then (truth_of g s os c) (truths_of g s os cs))
          (then (judged_decides c) (parts_decide cs))

    judged_each : (cs : List Cond) → each (λ c. judged word l (truth_of g s os c)) cs ≡ judged word l (hold_all g s os cs)
    unfolding each hold_all judged
    judged_each [] = refl
    judged_each (c ∷ cs) = ap (unless (judged word l (truth_of g s os c))) (judged_each cs) ∙ judged_then (truth_of g s os c) (hold_all g s os cs)

    pub conditions_decide : (cs : List Cond) → Decides (All (Holds g s os) cs) (FirstNotSo g s os word l cs) (judged word l (hold_all g s os cs))
    conditions_decide cs =
        subst (Decides (All (Holds g s os) cs) (FirstNotSo g s os word l cs)) (judged_each cs)
        (each_decides (λ c. judged word l (truth_of g s os c)) judged_decides cs)
