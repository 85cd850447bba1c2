-- What a point reads, every fact and number that occurs in its conditions, its duration rule and its right sides, and what its effects write.
-- RULES 11, step 3.
use Rattle.std.specs.Prelude.{ℕ, Bool, List, ◌⊎◌, ◌≡◌}
use Rattle.domain_meaning.specs.Terms.{Ref, Expr, number, value, minus, difference, plus}
use Rattle.domain_meaning.specs.Conditions.{Cond, Conds, all, atom, same, compare, none, cons}
use Rattle.domain_meaning.specs.Effects.{Change, becomes, changes}
use Rattle.domain_meaning.specs.Actions.{rule}
use Rattle.happening_meaning.specs.State.{Grounds, fact_of, number_of}
use Rattle.happening_meaning.specs.Happening.{Point, objects_of, conditions_of, effects_of, rule_of}
use Rattle.check_validity_meaning.specs.Lists.{◌∈◌}

-- ---- x occurs; os are the objects of the step

module _ (g : Grounds) (os : List ℕ) (x : ℕ) where
  -- number x in an expression
  unfoldable pub InExpr : Expr → Type 0
  InExpr (number z) = ⊥
  InExpr (value r) = number_of g os r ≡ x
  InExpr (minus e) = InExpr e
  InExpr (difference a b) = InExpr a ⊎ InExpr b
  InExpr (plus a b) = InExpr a ⊎ InExpr b

  -- number x in a condition: in either side of a comparison, wherever that stands
  unfoldable mutual
    pub NumberIn : Cond → Type 0
    NumberIn (all cs) = NumberInSome cs
    NumberIn (atom yes' r) = ⊥
    NumberIn (same yes' a b) = ⊥
    NumberIn (compare yes' op a b) = InExpr a ⊎ InExpr b

    pub NumberInSome : Conds → Type 0
    NumberInSome none = ⊥
    NumberInSome (cons c cs) = NumberIn c ⊎ NumberInSome cs

  -- fact x in a condition: it is one of its atoms, as written or under `not`
  unfoldable mutual
    pub FactIn : Cond → Type 0
    FactIn (all cs) = FactInSome cs
    FactIn (atom yes' r) = fact_of g os r ≡ x
    FactIn (same yes' a b) = ⊥
    FactIn (compare yes' op a b) = ⊥

    pub FactInSome : Conds → Type 0
    FactInSome none = ⊥
    FactInSome (cons c cs) = FactIn c ⊎ FactInSome cs

-- ---- what a point reads

module _ (g : Grounds) (p : Point) (x : ℕ) where
  -- a fact is "read by one's conditions"
  pub data ReadsFact : Type 0 where
    by_condition : (c : Cond) → c ∈ conditions_of p → FactIn g (objects_of p) x c → ReadsFact

  -- a number is "read .. in a condition, a duration rule or a right side"
  pub data ReadsNumber : Type 0 where
    in_condition : (c : Cond) → c ∈ conditions_of p → NumberIn g (objects_of p) x c → ReadsNumber
    in_duration : (e : Expr) → rule_of p ≡ rule e → InExpr g (objects_of p) x e → ReadsNumber
    in_right_side : (how : Change) (r : Ref) (e : Expr) → changes how r e ∈ effects_of p → InExpr g (objects_of p) x e → ReadsNumber

-- ---- what its effects write

module _ (g : Grounds) (p : Point) where
  -- fact x is added (true) or deleted (false)
  pub record Makes (yes' : Bool) (x : ℕ) : Type 0 where
    pub fact : Ref
    pub effect : becomes yes' fact ∈ effects_of p
    pub index : fact_of g (objects_of p) fact ≡ x

  -- number x is assigned, raised or lowered
  pub record Changes (how : Change) (x : ℕ) : Type 0 where
    pub target : Ref
    pub amount : Expr
    pub effect : changes how target amount ∈ effects_of p
    pub index : number_of g (objects_of p) target ≡ x
