-- The lines that a failure names: those of the points or steps in which it lies, and 0 at the goal. Assumes nothing.
use mathlib.Core.Bool.{false}
use mathlib.Core.List.{List}
use mathlib.Core.Logic.{inl, inr}
use mathlib.Core.Path.{◌≡◌, refl, subst}
use Prim.Native.Nat.{ℕ}
use lib.IntN.{ℤ}
use Rattle.domain_meaning.specs.Terms.{Expr}
use Rattle.domain_meaning.specs.Conditions.{Cond}
use Rattle.domain_meaning.specs.Effects.{Change, assign, raise, lower, Effect, becomes, changes}
use Rattle.domain_meaning.specs.Actions.{Lasting, moment, rule, whole}
use Rattle.happening_meaning.specs.State.{State, Grounds, number_of}
use Rattle.happening_meaning.specs.Truths.{value_of, truth_of}
use Rattle.happening_meaning.specs.Happening.{Step, Point, line_of, objects_of, conditions_of, effects_of, rule_of, parts_for, is_done, judged, no_objects, reached}
use Rattle.happening_meaning.specs.declared.Value.{Value}
use Rattle.happening_meaning.specs.declared.Value.TheVariants as Is
use Rattle.happening_meaning.specs.declared.Truth.{Truth}
use Rattle.happening_meaning.specs.declared.Truth.TheVariants as T
use Rattle.happening_meaning.specs.declared.Outcome.{Outcome}
use Rattle.happening_meaning.specs.declared.Outcome.TheVariants.{Done, Duration, Condition, Undefined, Range, Itself, Conflict, Invariant, Goal}
use Rattle.check_validity_meaning.specs.Lists.{All, ◌∈◌}
use Rattle.check_validity_meaning.specs.Values.{NoValue}
use Rattle.check_validity_meaning.specs.Satisfied.{Holds, NotSo, FirstNotSo}
use Rattle.check_validity_meaning.specs.Happens.{Applicable, Consistent, NonInterfering, Doable, Evaluable, Within}
use Rattle.check_validity_meaning.specs.Failing.{Mislasts, Inapplicable, Inconsistent, Interfering, NotGiven, Unmade, FirstUnmade, Outside, Fails}
use Rattle.check_validity_meaning.specs.Failing.{inapplicable, inconsistent, interfering, unmade, outside, Broken}
use Rattle.check_validity_meaning.proofs.Lists.{all_in, first_in_lem, pair_in}
use Rattle.check_validity_meaning.proofs.Values.{wants, value_decides}
use Rattle.check_validity_meaning.proofs.Satisfied.{judged_decides}

-- every line that an outcome names is so
abbrev pub Names : (ℕ → Type 0) → Outcome → Type 0
Names L Done = Unit
Names L (Duration l) = L l
Names L (Condition l) = L l
Names L (Undefined l) = L l
Names L (Range l) = L l
Names L (Itself l) = L l
Names L (Conflict l m) = L l × L m
Names L (Invariant l) = L l
Names L Goal = Unit

judged_names : (L : ℕ → Type 0) (word : Outcome) (l : ℕ) → Names L word → L l → (t : Truth) → Names L (judged word l t)
unfolding judged
judged_names L word l n h T.Holds = tt
judged_names L word l n h T.Fails = n
judged_names L word l n h T.Undefined = h
judged_names L word l n h T.Range = h

wants_names : (L : ℕ → Type 0) (l : ℕ) → L l → (v : Value) → Names L (wants l v)
wants_names L l h (Is.Number z) = tt
wants_names L l h Is.Undefined = h
wants_names L l h Is.Range = h

module _ (L : ℕ → Type 0) (w : Outcome) where
  -- ---- conditions, an expression, a duration of line l

  module _ (word : Outcome) (l : ℕ) (f : is_done word ≡ false) (n : Names L word) (h : L l) (g : Grounds) (s : State) (os : List ℕ) where
    pub not_so_names : (c : Cond) → NotSo g s os word l c w → Names L w
    not_so_names c x = subst (Names L) ((judged_decides word l f g s os c).only w x).0 (judged_names L word l n h (truth_of g s os c))

    first_not_so_names : (cs : List Cond) → FirstNotSo g s os word l cs w → Names L w
    first_not_so_names cs x = first_in_lem (Holds g s os) cs (λ c i. not_so_names c) x

  no_value_names : (l : ℕ) → L l → (g : Grounds) (ns : List ℤ) (os : List ℕ) (e : Expr) → NoValue g ns os l e w → Names L w
  no_value_names l h g ns os e x = subst (Names L) ((value_decides g ns os l e).only w x).0 (wants_names L l h (value_of g ns os e))

  not_given_names : (how : Change) (l : ℕ) → L l → (ns : List ℤ) (x : ℕ) → NotGiven how ns x l w → Names L w
  not_given_names assign l h ns x y = absurd y
  not_given_names raise l h ns x y = rw y.1 h
  not_given_names lower l h ns x y = rw y.1 h

  -- ---- a point

  module _ (g : Grounds) (s : State) where
    mislasts_names : (p : Point) → L (line_of p) → (r : Lasting) → Mislasts g s p r w → Names L w
    mislasts_names p h moment x = absurd x
    mislasts_names p h (rule e) (inl x) = no_value_names (line_of p) h g s.numbers (objects_of p) e x
    mislasts_names p h (rule e) (inr x) = rw x.2.1 h

    inapplicable_names : (p : Point) → L (line_of p) → Inapplicable g s p w → Names L w
    inapplicable_names p h (inl x) = mislasts_names p h (rule_of p) x
    inapplicable_names p h (inr x) =
        first_not_so_names (Condition (line_of p)) (line_of p) refl h h g s (objects_of p) (conditions_of p) x.1

    inconsistent_names : (p : Point) → L (line_of p) → Inconsistent g p w → Names L w
    inconsistent_names p h x = rw x.1 h

    interfering_names : (p q : Point) → L (line_of p) → L (line_of q) → Interfering g p q w → Names L w
    interfering_names p q h k x = rw x.1 (h, k)

    effect_names : (l : ℕ) → L l → (os : List ℕ) (e : Effect) → Unmade g s l os e w → Names L w
    effect_names l h os (becomes yes' r) x = absurd x
    effect_names l h os (changes how r e) (inl x) = no_value_names l h g s.numbers os e x
    effect_names l h os (changes how r e) (inr x) = not_given_names how l h s.numbers (number_of g os r) x.1

    unmade_names : (p : Point) → L (line_of p) → FirstUnmade g s p w → Names L w
    unmade_names p h x =
        first_in_lem (Doable g s (objects_of p)) (effects_of p) (λ e i. effect_names (line_of p) h (objects_of p) e) x

    outside_names : (t : State) (p : Point) → L (line_of p) → Outside g t p w → Names L w
    outside_names t p h x = rw x.1 h

    -- ---- steps 1 to 4: lines of the points

    module _ (ps : List Point) (a : All (λ p. L (line_of p)) ps) where
      lined : (p : Point) → p ∈ ps → L (line_of p)
      lined p i = all_in (λ (q : Point). L (line_of q)) ps a p i

      pub fails_names : Fails g s ps w → Names L w
      fails_names (inapplicable x) = first_in_lem (Applicable g s) ps (λ p i. inapplicable_names p (lined p i)) x
      fails_names (inconsistent b x) = first_in_lem (Consistent g) ps (λ p i. inconsistent_names p (lined p i)) x
      fails_names (interfering b c x) = pair_in (NonInterfering g) ps (λ p q i j. interfering_names p q (lined p i) (lined q j)) x
      fails_names (unmade b c d x) = first_in_lem (Evaluable g s) ps (λ p i. unmade_names p (lined p i)) x
      fails_names (outside b t r x) = first_in_lem (Within g t) ps (λ p i. outside_names t p (lined p i)) x

    -- ---- step 5: lines of the steps under way

    pub broken_names : (x : Step) → L x.line → Broken g s x w → Names L w
    broken_names x h b = first_not_so_names (Invariant x.line) x.line refl h h g s x.objects (parts_for whole x.conditions) b

-- what comes of the goal: it is met, it is not, or it can't be said, without a line
pub reached_by : (Q : Outcome → Type 0) (g : Grounds) (s : State) (c : Cond) → Q Done → Q Goal → Q (Undefined 0) → Q (Range 0) → Q (reached g c s)
unfolding reached judged
reached_by Q g s c d f u r = go (truth_of g s no_objects c)
  where
    go : (t : Truth) → Q (judged Goal 0 t)
    go T.Holds = d
    go T.Fails = f
    go T.Undefined = u
    go T.Range = r
