-- Actions and goals prepared for running: every reference by its form, and for each time one list of single conditions and one of effects. Their facts and
-- numbers lie where one object is counted and no first index is added (`noFirsts`).
use Rattle.std.specs.Prelude.{ℕ, List, [], ◌∷◌, ◌++◌, map, Bool, true, false, cond}
use Rattle.domain_meaning.specs.Terms.{Ref, Expr, number, value, minus, difference, plus}
use Rattle.domain_meaning.specs.Conditions.{Cond, Conds, all, atom, same, compare, none, cons}
use Rattle.domain_meaning.specs.Effects.{Effect, becomes, changes}
use Rattle.domain_meaning.specs.Actions.{When, start, whole, end, Timed, Lasting, moment, rule, Action}
use Rattle.domain_prepared_meaning.specs.Forms.{Form, form_of, ref_by}

-- ---- what an action says of a time

abbrev pub is_at : When → When → Bool
is_at start start = true
is_at start whole = false
is_at start end = false
is_at whole start = false
is_at whole whole = true
is_at whole end = false
is_at end start = false
is_at end whole = false
is_at end end = true

unfoldable pub parts_at : {A : Type 0} → When → List (Timed A) → List A
parts_at w [] = []
parts_at w (x ∷ xs) = cond (is_at x.when w) (x.what ∷ parts_at w xs) (parts_at w xs)

-- the single conditions of a condition, as they are written
unfoldable mutual
  pub singles : Cond → List Cond
  singles (all cs) = singles_of cs
  singles (atom yes' r) = atom yes' r ∷ []
  singles (same yes' a b) = same yes' a b ∷ []
  singles (compare yes' op a b) = compare yes' op a b ∷ []

  pub singles_of : Conds → List Cond
  singles_of none = []
  singles_of (cons c cs) = singles c ++ singles_of cs

unfoldable pub all_singles : List Cond → List Cond
all_singles [] = []
all_singles (c ∷ cs) = singles c ++ all_singles cs

unfoldable pub all_effects : List (List Effect) → List Effect
all_effects [] = []
all_effects (es ∷ ess) = es ++ all_effects ess

abbrev pub tests_for : When → Action → List Cond
tests_for w a = all_singles (parts_at w a.conditions)

abbrev pub effects_for : When → Action → List Effect
effects_for w a = all_effects (parts_at w a.effects)

-- ---- references by their forms: with n objects, the first indexes of predicates (ps) and of functions (fs)

module _ (n : ℕ) (ps fs : List ℕ) where
  abbrev pub fact_ref : Ref → Ref
  fact_ref r = ref_by (form_of n ps r)

  abbrev pub number_ref : Ref → Ref
  number_ref r = ref_by (form_of n fs r)

  unfoldable pub expr : Expr → Expr
  expr (number z) = number z
  expr (value r) = value (number_ref r)
  expr (minus a) = minus (expr a)
  expr (difference a b) = difference (expr a) (expr b)
  expr (plus a b) = plus (expr a) (expr b)

  -- a single condition; an `and` is no single one
  unfoldable pub test : Cond → Cond
  test (all cs) = all none
  test (atom yes' r) = atom yes' (fact_ref r)
  test (same yes' a b) = same yes' a b
  test (compare yes' op a b) = compare yes' op (expr a) (expr b)

  unfoldable pub effect : Effect → Effect
  effect (becomes yes' r) = becomes yes' (fact_ref r)
  effect (changes how r e) = changes how (number_ref r) (expr e)

  unfoldable pub lasts : Lasting → Lasting
  lasts moment = moment
  lasts (rule e) = rule (expr e)

  -- ---- an action and a goal

  abbrev pub tests : When → Action → List Cond
  tests w a = map test (tests_for w a)

  abbrev pub effects : When → Action → List Effect
  effects w a = map effect (effects_for w a)

-- an action of three lists of single conditions and two of effects
abbrev pub at : {A : Type 0} → When → A → Timed A
at w x = record { when = w; what = x }

unfoldable pub action_by : Action → Lasting → List Cond → List Cond → List Cond → List Effect → List Effect → Action
action_by a l first during last begun ended =
    record {
      declared = a.declared;
      lasting = l;
      conditions = map (at start) first ++ (map (at whole) during ++ map (at end) last);
      effects = at start begun ∷ at end ended ∷ [];
    }

unfoldable pub conds_of : List Cond → Conds
conds_of [] = none
conds_of (c ∷ cs) = cons c (conds_of cs)

unfoldable pub action_of : ℕ → List ℕ → List ℕ → Action → Action
action_of n ps fs a =
    action_by a (lasts n ps fs a.lasting) (tests n ps fs start a) (tests n ps fs whole a) (tests n ps fs end a) (effects n ps fs start a)
    (effects n ps fs end a)

unfoldable pub goal_of : ℕ → List ℕ → List ℕ → Cond → Cond
goal_of n ps fs c = all (conds_of (map (test n ps fs) (singles c)))
