-- Trees whose names a scope declares: each head stands in its table and has as many arguments as it was declared with, each object and each variable is
-- one of the scope's. In a scope with tables of the sizes of RULES 6 such trees are good. Assumes nothing.
use mathlib.Core.Path.{◌≡◌}
use mathlib.Core.List.{List, [], ◌∷◌}
use Prim.Native.Nat.{ℕ, zero, suc, ◌≤◌, ◌<◌}
use native.Mathlib.Omega.{arith}
use lib.ListN.{length}
use lib.Signed.{mag}
use Rattle.domain_meaning.specs.Tables.{Table, entry_at, wanted_of}
use Rattle.domain_meaning.specs.Terms.{Scope, Arg, object, variable, Ref, Expr, number, value, minus, difference, plus}
use Rattle.domain_meaning.specs.Conditions.{Cond, Conds, all, atom, same, compare, none, cons}
use Rattle.domain_meaning.specs.Effects.{Effect, becomes, changes}
use Rattle.domain_meaning.specs.Actions.{Timed, Lasting, moment, rule, Action, within}
use Rattle.domain_meaning.specs.Indexes.{arity}
use Rattle.domain_stored_meaning.specs.Good.{GoodArg, GoodArgs, GoodRef, GoodExpr, Below, GoodCond, GoodConds, GoodEffect, GoodEffects, GoodParts, GoodLasting}
use Rattle.domain_stored_meaning.specs.Good.{GoodAction, GoodActions, AllFew, Sized}

unfoldable pub NamedArg : Scope → Arg → Type 0
NamedArg c (object i) = i < length c.objects
NamedArg c (variable i) = i < length c.variables

unfoldable pub NamedArgs : Scope → List Arg → Type 0
NamedArgs c [] = Unit {0}
NamedArgs c (a ∷ xs) = NamedArg c a × NamedArgs c xs

-- of a table of predicates or functions
pub record NamedRef (c : Scope) (t : Table) (r : Ref) : Type 0 where
  pub head : r.head < length t
  pub count : length r.args ≡ length (wanted_of (entry_at t r.head))
  pub args : NamedArgs c r.args

-- at most so many levels
unfoldable pub NamedExpr : Scope → ℕ → Expr → Type 0
NamedExpr c zero x = ⊥
NamedExpr c (suc d) (number z) = mag z < 1099511627775
NamedExpr c (suc d) (value r) = NamedRef c c.functions r
NamedExpr c (suc d) (minus a) = NamedExpr c d a
NamedExpr c (suc d) (difference a b) = NamedExpr c d a × NamedExpr c d b
NamedExpr c (suc d) (plus a b) = NamedExpr c d a × NamedExpr c d b

unfoldable mutual
  pub NamedCond : Scope → ℕ → Cond → Type 0
  NamedCond c d (all cs) = Below d (λ e. NamedConds c e cs)
  NamedCond c d (atom yes' r) = Below d (λ e. NamedRef c c.predicates r)
  NamedCond c d (same yes' a b) = Below d (λ e. NamedArg c a × NamedArg c b)
  NamedCond c d (compare yes' op a b) = Below d (λ e. NamedExpr c 16 a × NamedExpr c 16 b)

  pub NamedConds : Scope → ℕ → Conds → Type 0
  NamedConds c d none = Unit {0}
  NamedConds c d (cons x xs) = NamedCond c d x × NamedConds c d xs

unfoldable pub NamedEffect : Scope → Effect → Type 0
NamedEffect c (becomes yes' r) = NamedRef c c.predicates r
NamedEffect c (changes how r x) = NamedRef c c.functions r × NamedExpr c 16 x

unfoldable pub NamedEffects : Scope → List Effect → Type 0
NamedEffects c [] = Unit {0}
NamedEffects c (e ∷ es) = NamedEffect c e × NamedEffects c es

unfoldable pub NamedLasting : Scope → Lasting → Type 0
NamedLasting c moment = Unit {0}
NamedLasting c (rule x) = NamedExpr c 16 x

-- the trees of an action, whose parameters are the scope's variables
pub record NamedTrees (c : Scope) (a : Action) : Type 0 where
  pub lasting : NamedLasting c a.lasting
  pub conditions : GoodParts (NamedCond c 16) a.conditions
  pub effects : GoodParts (NamedEffects c) a.effects

pub record NamedAction (c : Scope) (a : Action) : Type 0 where
  pub parameters : Table
  pub few : length parameters ≤ 4
  pub count : arity a.declared ≡ length parameters
  pub trees : NamedTrees (within c parameters) a

unfoldable pub NamedActions : Scope → List Action → Type 0
NamedActions c [] = Unit {0}
NamedActions c (a ∷ as') = NamedAction c a × NamedActions c as'

-- ---- more levels are as good

below_deeper : (P : ℕ → Type 0) (d e : ℕ) → d ≤ e → ((a b : ℕ) → a ≤ b → P a → P b) → Below d P → Below e P
below_deeper P zero e h f g = absurd g
below_deeper P (suc d) zero h f g = absurd (let y : ⊥ = omega arith in y)
below_deeper P (suc d) (suc e) h f g = f d e (omega arith) g

module _ (c : Scope) where
  pub expr_deeper : (x : Expr) (d e : ℕ) → d ≤ e → NamedExpr c d x → NamedExpr c e x
  unfolding NamedExpr
  expr_deeper x zero e h g = absurd g
  expr_deeper x (suc d) zero h g = absurd (let y : ⊥ = omega arith in y)
  expr_deeper (number z) (suc d) (suc e) h g = g
  expr_deeper (value r) (suc d) (suc e) h g = g
  expr_deeper (minus a) (suc d) (suc e) h g = expr_deeper a d e (omega arith) g
  expr_deeper (difference a b) (suc d) (suc e) h g = (expr_deeper a d e (omega arith) g.0, expr_deeper b d e (omega arith) g.1)
  expr_deeper (plus a b) (suc d) (suc e) h g = (expr_deeper a d e (omega arith) g.0, expr_deeper b d e (omega arith) g.1)

  mutual
    unfolding NamedCond NamedConds

    pub cond_deeper : (x : Cond) (d e : ℕ) → d ≤ e → NamedCond c d x → NamedCond c e x
    cond_deeper (all cs) d e h g = below_deeper _ d e h (λ a b k i. conds_deeper cs a b k i) g
    cond_deeper (atom yes' r) d e h g = below_deeper _ d e h (λ a b k i. i) g
    cond_deeper (same yes' x y) d e h g = below_deeper _ d e h (λ a b k i. i) g
    cond_deeper (compare yes' op x y) d e h g = below_deeper _ d e h (λ a b k i. i) g

    conds_deeper : (xs : Conds) (d e : ℕ) → d ≤ e → NamedConds c d xs → NamedConds c e xs
    conds_deeper none d e h g = g
    conds_deeper (cons x xs) d e h g = (cond_deeper x d e h g.0, conds_deeper xs d e h g.1)

-- ---- they are good

few_at : (most : ℕ) (t : Table) (i : ℕ) → AllFew most t → length (wanted_of (entry_at t i)) ≤ most
unfolding AllFew
few_at most [] i h = omega arith
few_at most (e ∷ t) zero h = h.0
few_at most (e ∷ t) (suc i) h = few_at most t i h.1

-- what is so of the levels below
below_also : (P Q : ℕ → Type 0) (d : ℕ) → ((e : ℕ) → P e → Q e) → Below d P → Below d Q
below_also P Q zero f h = h
below_also P Q (suc d) f h = f d h

-- what follows at every level
pub of_below : {Q : Type 0} (P : ℕ → Type 0) (d : ℕ) → ((e : ℕ) → P e → Q) → Below d P → Q
of_below P zero f h = absurd h
of_below P (suc d) f h = f d h

-- what is so of each thing that stands in a part
pub parts_also : {A : Type 0} (P Q : A → Type 0) → ((x : A) → P x → Q x) → (xs : List (Timed A)) → GoodParts P xs → GoodParts Q xs
unfolding GoodParts
parts_also P Q f [] h = tt
parts_also P Q f (x ∷ xs) h = (f x.what h.0, parts_also P Q f xs h.1)

module _ (c : Scope) (z : Sized c) where
  arg_good : (a : Arg) → NamedArg c a → GoodArg a
  unfolding NamedArg GoodArg
  arg_good (object i) h = omega (arith, z.objects)
  arg_good (variable i) h = tt

  args_good : (xs : List Arg) → NamedArgs c xs → GoodArgs xs
  unfolding NamedArgs GoodArgs
  args_good [] h = tt
  args_good (a ∷ xs) h = (arg_good a h.0, args_good xs h.1)

  ref_good : (most : ℕ) (t : Table) (r : Ref) → AllFew most t → NamedRef c t r → GoodRef most r
  ref_good most t r f h = record { few = omega (arith, few_at most t r.head f, h.count); args = args_good r.args h.args }

  expr_good : (d : ℕ) (x : Expr) → NamedExpr c d x → GoodExpr d x
  unfolding NamedExpr GoodExpr
  expr_good zero x h = h
  expr_good (suc d) (number n) h = h
  expr_good (suc d) (value r) h = ref_good 2 c.functions r z.numbers h
  expr_good (suc d) (minus a) h = expr_good d a h
  expr_good (suc d) (difference a b) h = (expr_good d a h.0, expr_good d b h.1)
  expr_good (suc d) (plus a b) h = (expr_good d a h.0, expr_good d b h.1)

  mutual
    unfolding NamedCond NamedConds GoodCond GoodConds

    pub cond_good : (x : Cond) (d : ℕ) → NamedCond c d x → GoodCond d x
    cond_good (all cs) d h = below_also _ _ d (λ e k. conds_good cs e k) h
    cond_good (atom yes' r) d h = below_also _ _ d (λ e k. ref_good 3 c.predicates r z.facts k) h
    cond_good (same yes' a b) d h = below_also _ _ d (λ e k. (arg_good a k.0, arg_good b k.1)) h
    cond_good (compare yes' op a b) d h = below_also _ _ d (λ e k. (expr_good 16 a k.0, expr_good 16 b k.1)) h

    conds_good : (xs : Conds) (d : ℕ) → NamedConds c d xs → GoodConds d xs
    conds_good none d h = tt
    conds_good (cons x xs) d h = (cond_good x d h.0, conds_good xs d h.1)

  effect_good : (e : Effect) → NamedEffect c e → GoodEffect e
  unfolding NamedEffect GoodEffect
  effect_good (becomes yes' r) h = ref_good 3 c.predicates r z.facts h
  effect_good (changes how r x) h = (ref_good 2 c.functions r z.numbers h.0, expr_good 16 x h.1)

  effects_good : (es : List Effect) → NamedEffects c es → GoodEffects es
  unfolding NamedEffects GoodEffects
  effects_good [] h = tt
  effects_good (e ∷ es) h = (effect_good e h.0, effects_good es h.1)

  lasting_good : (l : Lasting) → NamedLasting c l → GoodLasting l
  unfolding NamedLasting GoodLasting
  lasting_good moment h = tt
  lasting_good (rule x) h = expr_good 16 x h

  trees_good : (a : Action) → NamedTrees c a → GoodAction a
  trees_good a h =
      record {
        lasting = lasting_good a.lasting h.lasting;
        conditions = parts_also (NamedCond c 16) (GoodCond 16) (λ x. cond_good x 16) a.conditions h.conditions;
        effects = parts_also (NamedEffects c) GoodEffects effects_good a.effects h.effects;
      }

pub actions_good : (c : Scope) → Sized c → (as' : List Action) → NamedActions c as' → GoodActions as'
unfolding NamedActions GoodActions
actions_good c z [] h = tt
actions_good c z (a ∷ as') h =
    let n = h.0 in
    (trees_good (within c n.parameters) (record { objects = z.objects; facts = z.facts; numbers = z.numbers }) a n.trees, actions_good c z as' h.1)
