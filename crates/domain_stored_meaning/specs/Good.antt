-- What is asked of a tree so that its cells give it back: objects below 64, few arguments, numbers in the range of a literal, and levels.
-- The length of a list is not bounded: its cells bound it.
use Rattle.std.specs.Prelude.{ℕ, zero, suc, ◌≤◌, ◌<◌, List, [], ◌∷◌, length}
use Rattle.std.specs.Int.Signed.{mag}
use Rattle.domain_meaning.specs.Tables.{Table, wanted_of}
use Rattle.domain_meaning.specs.Terms.{Scope, Arg, object, variable, Ref, Expr, number, value, minus, difference, plus}
use Rattle.domain_meaning.specs.Conditions.{Cond, Conds, all, atom, same, compare, none, cons}
use Rattle.domain_meaning.specs.Effects.{Effect, becomes, changes}
use Rattle.domain_meaning.specs.Actions.{Timed, Lasting, moment, rule, Action}

unfoldable pub GoodArg : Arg → Type 0
GoodArg (object i) = i < 64
GoodArg (variable i) = Unit {0}

unfoldable pub GoodArgs : List Arg → Type 0
GoodArgs [] = Unit {0}
GoodArgs (a ∷ xs) = GoodArg a × GoodArgs xs

-- at most so many arguments
pub record GoodRef (most : ℕ) (r : Ref) : Type 0 where
  pub few : length r.args ≤ most
  pub args : GoodArgs r.args

-- at most so many levels
unfoldable pub GoodExpr : ℕ → Expr → Type 0
GoodExpr zero x = ⊥
GoodExpr (suc d) (number z) = mag z < 1099511627775
GoodExpr (suc d) (value r) = GoodRef 2 r
GoodExpr (suc d) (minus a) = GoodExpr d a
GoodExpr (suc d) (difference a b) = GoodExpr d a × GoodExpr d b
GoodExpr (suc d) (plus a b) = GoodExpr d a × GoodExpr d b

-- there is a level, and so many below it
abbrev pub Below : ℕ → (ℕ → Type 0) → Type 0
Below zero P = ⊥
Below (suc d) P = P d

unfoldable mutual
  pub GoodCond : ℕ → Cond → Type 0
  GoodCond d (all cs) = Below d (λ e. GoodConds e cs)
  GoodCond d (atom yes' r) = Below d (λ e. GoodRef 3 r)
  GoodCond d (same yes' a b) = Below d (λ e. GoodArg a × GoodArg b)
  GoodCond d (compare yes' op a b) = Below d (λ e. GoodExpr 16 a × GoodExpr 16 b)

  pub GoodConds : ℕ → Conds → Type 0
  GoodConds d none = Unit {0}
  GoodConds d (cons c cs) = GoodCond d c × GoodConds d cs

unfoldable pub GoodEffect : Effect → Type 0
GoodEffect (becomes yes' r) = GoodRef 3 r
GoodEffect (changes how r x) = GoodRef 2 r × GoodExpr 16 x

unfoldable pub GoodEffects : List Effect → Type 0
GoodEffects [] = Unit {0}
GoodEffects (e ∷ es) = GoodEffect e × GoodEffects es

-- what stands in each part is good
unfoldable pub GoodParts : {A : Type 0} → (A → Type 0) → List (Timed A) → Type 0
GoodParts P [] = Unit {0}
GoodParts P (x ∷ xs) = P x.what × GoodParts P xs

unfoldable pub GoodLasting : Lasting → Type 0
GoodLasting moment = Unit {0}
GoodLasting (rule x) = GoodExpr 16 x

pub record GoodAction (a : Action) : Type 0 where
  pub lasting : GoodLasting a.lasting
  pub conditions : GoodParts (GoodCond 16) a.conditions
  pub effects : GoodParts GoodEffects a.effects

unfoldable pub GoodActions : List Action → Type 0
GoodActions [] = Unit {0}
GoodActions (a ∷ as') = GoodAction a × GoodActions as'

-- ---- what a scope's tables fulfil so that the trees read in it are good

-- every name was declared with at most so many arguments
unfoldable pub AllFew : ℕ → Table → Type 0
AllFew most [] = Unit {0}
AllFew most (e ∷ t) = (length (wanted_of e) ≤ most) × AllFew most t

pub record Sized (c : Scope) : Type 0 where
  pub objects : length c.objects ≤ 64
  pub facts : AllFew 3 c.predicates
  pub numbers : AllFew 2 c.functions
