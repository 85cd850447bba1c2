-- Each step of a happening decides what the definitions say of it. Assumes nothing.
use mathlib.Core.Bool.{Bool, true, false, cond, ◌&&◌, true≢false, false≢true}
use mathlib.Core.List.{List}
use mathlib.Core.Path.{◌≡◌, refl, sym, ap, subst, ◌∙◌}
use Prim.Native.Nat.{ℕ}
use lib.IntN.{ℤ, pos, negsuc}
use lib.Signed.{le_z}
use lib.Dec.{leb}
use borrow.Author.Tests.{leb-true, le-leb}
use native.Mathlib.Omega.{arith}
use Rattle.domain_meaning.specs.Conditions.{Cond}
use Rattle.domain_meaning.specs.Actions.{Lasting, moment, rule, whole}
use Rattle.happening_meaning.specs.State.{State, Grounds}
use Rattle.happening_meaning.specs.Truths.{value_of}
use Rattle.happening_meaning.specs.Happening.{Step, Point, line_of, objects_of, conditions_of, rule_of, parts_for, lasts, lasting, tested, spans, spanning, reached}
use Rattle.happening_meaning.specs.Happening.{no_objects}
use Rattle.happening_meaning.specs.declared.Value.{Value}
use Rattle.happening_meaning.specs.declared.Value.TheVariants as Is
use Rattle.happening_meaning.specs.declared.Outcome.TheVariants.{Done, Duration, Condition, Invariant, Goal}
use Rattle.check_validity_meaning.specs.Lists.{All, First}
use Rattle.check_validity_meaning.specs.Values.{HasValue}
use Rattle.check_validity_meaning.specs.Satisfied.{Holds, NotSo}
use Rattle.check_validity_meaning.specs.Happens.{Lasts, Applicable, Spans}
use Rattle.check_validity_meaning.specs.Failing.{Mislasts, Inapplicable, Broken}
use Rattle.check_validity_meaning.proofs.Deciding.{Decides, always, holds, fails, then, each_decides, retold}
use Rattle.check_validity_meaning.proofs.Values.{onward, onward_decides, value_tells}
use Rattle.check_validity_meaning.proofs.Satisfied.{judged_decides, conditions_decide}

-- ---- the duration rule

same_z : (z : ℤ) (d : ℕ) → (le_z z (pos d) && le_z (pos d) z) ≡ true → z ≡ pos d
same_z (pos n) d e = go (leb n d) (leb d n) refl refl e
  where
    go : (a b : Bool) → leb n d ≡ a → leb d n ≡ b → (a && b) ≡ true → pos n ≡ pos d
    go true true p q e = ap pos (omega (arith, leb-true n d p, leb-true d n q))
    go true false p q e = absurd (false≢true e)
    go false true p q e = absurd (false≢true e)
    go false false p q e = absurd (false≢true e)
same_z (negsuc n) d e = absurd (false≢true e)

z_same : (z : ℤ) (d : ℕ) → z ≡ pos d → (le_z z (pos d) && le_z (pos d) z) ≡ true
z_same z d e = rw (e, le-leb d d (omega arith))

same_decides : (l d : ℕ) (z : ℤ) → Decides (z ≡ pos d) (λ w. ¬ (z ≡ pos d) × (w ≡ Duration l)) (cond (le_z z (pos d) && le_z (pos d) z) Done (Duration l))
same_decides l d z = go (le_z z (pos d) && le_z (pos d) z) refl
  where
    go : (b : Bool) → (le_z z (pos d) && le_z (pos d) z) ≡ b → Decides (z ≡ pos d) (λ w. ¬ (z ≡ pos d) × (w ≡ Duration l)) (cond b Done (Duration l))
    go true e = holds (same_z z d e)
    go false e = fails refl (λ q. true≢false (sym (z_same z d q) ∙ e))

lasts_onward : (l d : ℕ) (v : Value) → onward l v (λ z. cond (le_z z (pos d) && le_z (pos d) z) Done (Duration l)) ≡ lasts l d v
lasts_onward l d (Is.Number z) = refl
lasts_onward l d Is.Undefined = refl
lasts_onward l d Is.Range = refl

module _ (g : Grounds) (s : State) where
  lasting_decides : (p : Point) (r : Lasting) → Decides (Lasts g s p r) (Mislasts g s p r) (lasting g s.numbers p r)
  unfolding lasting
  lasting_decides p moment = always
  lasting_decides p (rule e) =
      let l = line_of p in
      let d = p.step.duration in
      let v = value_of g s.numbers (objects_of p) e in
      subst (Decides (Lasts g s p (rule e)) (Mislasts g s p (rule e))) (lasts_onward l d v)
      (retold (λ h. subst (HasValue g s.numbers (objects_of p) e) h.2 h.1) (λ h. (pos d, h, refl)) (λ w x. x) (λ w x. x)
      (onward_decides l (λ z. cond (le_z z (pos d) && le_z (pos d) z) Done (Duration l)) v (value_tells g s.numbers (objects_of p) l e) (same_decides l d)))

  -- step 1
  pub tested_decides : (p : Point) → Decides (Applicable g s p) (Inapplicable g s p) (tested g s p)
  unfolding tested
  tested_decides p = then (lasting_decides p (rule_of p)) (conditions_decide (Condition (line_of p)) (line_of p) refl g s (objects_of p) (conditions_of p))

  -- step 5
  spans_decides : (x : Step) → Decides (Spans g s x) (Broken g s x) (spans g s x)
  unfolding spans
  spans_decides x = conditions_decide (Invariant x.line) x.line refl g s x.objects (parts_for whole x.conditions)

  pub spanning_decides : (xs : List Step) → Decides (All (Spans g s) xs) (λ w. First (Spans g s) (λ x. Broken g s x w) xs) (spanning g s xs)
  unfolding spanning
  spanning_decides xs = each_decides (spans g s) spans_decides xs

  -- the goal
  pub reached_decides : (c : Cond) → Decides (Holds g s no_objects c) (NotSo g s no_objects Goal 0 c) (reached g c s)
  unfolding reached
  reached_decides c = judged_decides Goal 0 refl g s no_objects c
