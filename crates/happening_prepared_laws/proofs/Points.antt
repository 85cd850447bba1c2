-- The points and steps of a prepared action beside those of the action. Assumes nothing.
use Prim.Native.Nat.{ℕ}
use mathlib.Core.Path.{◌≡◌, refl, ap, ap₂, ◌∙◌}
use mathlib.Core.List.{List, [], ◌∷◌, ◌++◌, map, append-nil}
use mathlib.Core.Bool.{Bool, true, false, cond}
use Rattle.domain_meaning.specs.Tables.{Entry}
use Rattle.domain_meaning.specs.Conditions.{Cond}
use Rattle.domain_meaning.specs.Effects.{Effect}
use Rattle.domain_meaning.specs.Actions.{When, start, whole, end, Timed, Lasting, moment, Action}
use Rattle.domain_prepared_meaning.specs.Preparing.{is_at, parts_at, all_singles, all_effects, test, effect, lasts, at, action_by, action_of}
use Rattle.domain_prepared_meaning.proofs.Declared.{lasting_same}
use Rattle.happening_meaning.specs.Happening.{Step, step_of, Point, same_time, parts_for, joined, conditions_of, effects_of, rule_of, line_of, objects_of}

-- ---- what an action says of a time

is_at_lem : (v w : When) → is_at v w ≡ same_time v w
is_at_lem start start = refl
is_at_lem start whole = refl
is_at_lem start end = refl
is_at_lem whole start = refl
is_at_lem whole whole = refl
is_at_lem whole end = refl
is_at_lem end start = refl
is_at_lem end whole = refl
is_at_lem end end = refl

parts_same : {A : Type 0} (w : When) (xs : List (Timed A)) → parts_at w xs ≡ parts_for w xs
unfolding parts_at parts_for
parts_same w [] = refl
parts_same {A} w (x ∷ xs) =
    ap₂ (λ (b : Bool) (ys : List A). cond b (x.what ∷ ys) ys) (is_at_lem x.when w) (parts_same w xs)

joined_same : (xss : List (List Effect)) → all_effects xss ≡ joined xss
unfolding all_effects joined
joined_same [] = refl
joined_same (xs ∷ xss) = ap (λ (ys : List Effect). xs ++ ys) (joined_same xss)

module _ {A : Type 0} where
  parts_append : (w : When) (xs ys : List (Timed A)) → parts_for w (xs ++ ys) ≡ parts_for w xs ++ parts_for w ys
  unfolding parts_for
  parts_append w [] ys = refl
  parts_append w (x ∷ xs) ys = go (same_time x.when w) (parts_for w xs) (parts_for w ys) (parts_append w xs ys)
    where
      go : (b : Bool) {us : List A} (vs ws : List A) → us ≡ vs ++ ws → cond b (x.what ∷ us) us ≡ cond b (x.what ∷ vs) vs ++ ws
      go true vs ws e = ap (λ (zs : List A). x.what ∷ zs) e
      go false vs ws e = e

  -- parts that all have one time
  parts_of_lem : (v w : When) (xs : List A) → parts_for w (map (at v) xs) ≡ cond (same_time v w) xs []
  unfolding parts_for
  parts_of_lem v w [] = go (same_time v w)
    where
      go : (b : Bool) → ◌≡◌ {A = List A} [] (cond b [] [])
      go true = refl
      go false = refl
  parts_of_lem v w (x ∷ xs) = go (same_time v w) (parts_of_lem v w xs)
    where
      go : (b : Bool) {ys : List A} → ys ≡ cond b xs [] → cond b (x ∷ ys) ys ≡ cond b (x ∷ xs) []
      go true e = ap (λ (zs : List A). x ∷ zs) e
      go false e = e

  -- three lists, each with its time
  pub three : (w : When) (xs ys zs : List A)
      → parts_for w (map (at start) xs ++ (map (at whole) ys ++ map (at end) zs))
      ≡ cond (same_time start w) xs [] ++ (cond (same_time whole w) ys [] ++ cond (same_time end w) zs [])
  three w xs ys zs =
      parts_append w (map (at start) xs) (map (at whole) ys ++ map (at end) zs)
      ∙ ap₂ ◌++◌ (parts_of_lem start w xs) (parts_append w (map (at whole) ys) (map (at end) zs) ∙ ap₂ ◌++◌ (parts_of_lem whole w ys) (parts_of_lem end w zs))

-- ---- an action of three lists of single conditions and two of effects

module _ (b : Action) (l : Lasting) (xs ys zs : List Cond) (us vs : List Effect) where
  abbrev listed : Action
  listed = action_by b l xs ys zs us vs

  pub listed_first : parts_for start listed.conditions ≡ xs
  unfolding action_by
  listed_first = three start xs ys zs ∙ append-nil xs

  pub listed_during : parts_for whole listed.conditions ≡ ys
  unfolding action_by
  listed_during = three whole xs ys zs ∙ append-nil ys

  pub listed_last : parts_for end listed.conditions ≡ zs
  unfolding action_by
  listed_last = three end xs ys zs

  pub listed_begun : joined (parts_for start listed.effects) ≡ us
  unfolding action_by parts_for joined
  listed_begun = append-nil us

  pub listed_ended : joined (parts_for end listed.effects) ≡ vs
  unfolding action_by parts_for joined
  listed_ended = append-nil vs

-- ---- actions: with n objects, the first indexes of predicates (ps) and of functions (fs)

module _ (n : ℕ) (ps fs : List ℕ) where
  -- a is b prepared, as far as happenings see it
  pub record Prepared (a b : Action) : Type 0 where
    pub lasting : a.lasting ≡ lasts n ps fs b.lasting
    pub conditions : (w : When) → parts_for w a.conditions ≡ map (test n ps fs) (all_singles (parts_for w b.conditions))
    pub begun : joined (parts_for start a.effects) ≡ map (effect n ps fs) (joined (parts_for start b.effects))
    pub ended : joined (parts_for end a.effects) ≡ map (effect n ps fs) (joined (parts_for end b.effects))

  module _ (a : Action) where
    tests_at_lem : (w : When)
        → map (test n ps fs) (all_singles (parts_at w a.conditions)) ≡ map (test n ps fs) (all_singles (parts_for w a.conditions))
    tests_at_lem w = ap (λ (cs : List Cond). map (test n ps fs) (all_singles cs)) (parts_same w a.conditions)

    effects_at_lem : (w : When) → map (effect n ps fs) (all_effects (parts_at w a.effects)) ≡ map (effect n ps fs) (joined (parts_for w a.effects))
    effects_at_lem w = ap (map (effect n ps fs)) (joined_same (parts_at w a.effects) ∙ ap joined (parts_same w a.effects))

    conditions_at_lem : (w : When) → parts_for w (action_of n ps fs a).conditions ≡ map (test n ps fs) (all_singles (parts_for w a.conditions))
    unfolding action_of
    conditions_at_lem start = listed_first a _ _ _ _ _ _ ∙ tests_at_lem start
    conditions_at_lem whole = listed_during a _ _ _ _ _ _ ∙ tests_at_lem whole
    conditions_at_lem end = listed_last a _ _ _ _ _ _ ∙ tests_at_lem end

    pub prepared : Prepared (action_of n ps fs a) a
    unfolding action_of
    prepared =
        record {
          lasting = lasting_same n ps fs a;
          conditions = conditions_at_lem;
          begun = listed_begun a _ _ _ _ _ _ ∙ effects_at_lem start;
          ended = listed_ended a _ _ _ _ _ _ ∙ effects_at_lem end;
        }

  -- an action that does nothing, beside itself
  abbrev pub nothing : Entry → Action
  nothing e = record { declared = e; lasting = moment; conditions = []; effects = [] }

  pub nothing_prepared : (e : Entry) → Prepared (nothing e) (nothing e)
  unfolding lasts parts_for joined all_singles
  nothing_prepared e = record { lasting = refl; conditions = λ w. refl; begun = refl; ended = refl }

  -- ---- points: p is a prepared point of a line, q the point of the same line

  pub record Alike (p q : Point) : Type 0 where
    pub line : line_of p ≡ line_of q
    pub objects : objects_of p ≡ objects_of q
    pub duration : p.step.duration ≡ q.step.duration
    pub rule : rule_of p ≡ lasts n ps fs (rule_of q)
    pub conditions : conditions_of p ≡ map (test n ps fs) (all_singles (conditions_of q))
    pub effects : effects_of p ≡ map (effect n ps fs) (effects_of q)

  pub data Alikes : List Point → List Point → Type 0 where
    none : Alikes [] []
    more : {p q : Point} {xs ys : List Point} → Alike p q → Alikes xs ys → Alikes (p ∷ xs) (q ∷ ys)

  -- lines under way
  pub record AlikeStep (x y : Step) : Type 0 where
    pub line : x.line ≡ y.line
    pub objects : x.objects ≡ y.objects
    pub during : parts_for whole x.conditions ≡ map (test n ps fs) (all_singles (parts_for whole y.conditions))

  pub data AlikeSteps : List Step → List Step → Type 0 where
    none : AlikeSteps [] []
    more : {x y : Step} {xs ys : List Step} → AlikeStep x y → AlikeSteps xs ys → AlikeSteps (x ∷ xs) (y ∷ ys)

  module _ {a b : Action} (h : Prepared a b) (l : ℕ) (os : List ℕ) (d : ℕ) where
    pub alike_start : Alike (record { step = step_of l a os d; when = start }) (record { step = step_of l b os d; when = start })
    alike_start =
        record { line = refl; objects = refl; duration = refl; rule = h.lasting; conditions = h.conditions start; effects = h.begun }

    pub alike_end : Alike (record { step = step_of l a os d; when = end }) (record { step = step_of l b os d; when = end })
    unfolding lasts
    alike_end = record { line = refl; objects = refl; duration = refl; rule = refl; conditions = h.conditions end; effects = h.ended }

    pub alike_step : AlikeStep (step_of l a os d) (step_of l b os d)
    alike_step = record { line = refl; objects = refl; during = h.conditions whole }
