-- What is asked of a tree, beside that it is good (domain_stored_meaning), so that its rows give it back prepared: few variables, and bases of two bytes.
use Rattle.std.specs.Prelude.{ℕ, ◌<◌, List, [], ◌∷◌}
use Rattle.domain_meaning.specs.Terms.{Arg, object, variable, Ref, Expr, number, value, minus, difference, plus}
use Rattle.domain_meaning.specs.Conditions.{Cond, Conds, all, atom, same, compare, none, cons}
use Rattle.domain_meaning.specs.Effects.{Effect, becomes, changes}
use Rattle.domain_meaning.specs.Actions.{Lasting, moment, rule, Action}
use Rattle.domain_stored_meaning.specs.Good.{GoodParts}
use Rattle.domain_prepared_meaning.specs.Forms.{form_of}

-- variables below k: 4 in an action, 0 in a goal
unfoldable pub PreparesArgs : ℕ → List Arg → Type 0
PreparesArgs k [] = Unit {0}
PreparesArgs k (object i ∷ as') = PreparesArgs k as'
PreparesArgs k (variable i ∷ as') = (i < k) × PreparesArgs k as'

-- with n objects, and the first indexes of its predicates or functions
pub record PreparesRef (n : ℕ) (firsts : List ℕ) (k : ℕ) (r : Ref) : Type 0 where
  pub base : (form_of n firsts r).base < 65536
  pub args : PreparesArgs k r.args

-- with n objects, the first indexes of predicates (ps) and of functions (fs)
module _ (n : ℕ) (ps fs : List ℕ) (k : ℕ) where
  unfoldable pub PreparesExpr : Expr → Type 0
  PreparesExpr (number z) = Unit {0}
  PreparesExpr (value r) = PreparesRef n fs k r
  PreparesExpr (minus a) = PreparesExpr a
  PreparesExpr (difference a b) = PreparesExpr a × PreparesExpr b
  PreparesExpr (plus a b) = PreparesExpr a × PreparesExpr b

  unfoldable mutual
    pub PreparesCond : Cond → Type 0
    PreparesCond (all cs) = PreparesConds cs
    PreparesCond (atom yes' r) = PreparesRef n ps k r
    PreparesCond (same yes' a b) = Unit {0}
    PreparesCond (compare yes' op a b) = PreparesExpr a × PreparesExpr b

    pub PreparesConds : Conds → Type 0
    PreparesConds none = Unit {0}
    PreparesConds (cons c cs) = PreparesCond c × PreparesConds cs

  unfoldable pub PreparesEffect : Effect → Type 0
  PreparesEffect (becomes yes' r) = PreparesRef n ps k r
  PreparesEffect (changes how r e) = PreparesRef n fs k r × PreparesExpr e

  unfoldable pub PreparesEffects : List Effect → Type 0
  PreparesEffects [] = Unit {0}
  PreparesEffects (e ∷ es) = PreparesEffect e × PreparesEffects es

  unfoldable pub PreparesLasting : Lasting → Type 0
  PreparesLasting moment = Unit {0}
  PreparesLasting (rule e) = PreparesExpr e

  pub record PreparesAction (a : Action) : Type 0 where
    pub lasting : PreparesLasting a.lasting
    pub conditions : GoodParts PreparesCond a.conditions
    pub effects : GoodParts PreparesEffects a.effects

  unfoldable pub PreparesActions : List Action → Type 0
  PreparesActions [] = Unit {0}
  PreparesActions (a ∷ as') = PreparesAction a × PreparesActions as'
