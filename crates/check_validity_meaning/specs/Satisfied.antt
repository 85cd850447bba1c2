-- When a condition holds in a state (RULES 9; Fox and Long, Definition 9), and which part of it is the first that doesn't.
use Rattle.std.specs.Prelude.{ℕ, List, ◌⊎◌, ◌≡◌, eqb, ℤ}
use Rattle.domain_meaning.specs.Conditions.{Cond, Conds, all, atom, same, compare, none, cons}
use Rattle.happening_meaning.specs.State.{State, Grounds, is_true, fact_of}
use Rattle.domain_meaning.specs.Indexes.{object_of}
use Rattle.happening_meaning.specs.Truths.{compared}
use Rattle.happening_meaning.specs.declared.Outcome.{Outcome}
use Rattle.check_validity_meaning.specs.Lists.{First}
use Rattle.check_validity_meaning.specs.Values.{HasValue, NoValue}

-- os are the objects of the step; each condition is as it is written, or under `not`
module _ (g : Grounds) (s : State) (os : List ℕ) where
  unfoldable mutual
    pub Holds : Cond → Type 0
    Holds (all cs) = EachHolds cs
    Holds (atom yes' r) = is_true s.facts (fact_of g os r) ≡ yes'
    Holds (same yes' a b) = eqb (object_of os a) (object_of os b) ≡ yes'
    Holds (compare yes' op a b) =
        (x : ℤ) × HasValue g s.numbers os a x × ((y : ℤ) × HasValue g s.numbers os b y × (compared op x y ≡ yes'))

    -- "An `and` holds conditions, and a condition may be an `and`; an empty one holds."
    pub EachHolds : Conds → Type 0
    EachHolds none = Unit
    EachHolds (cons c cs) = Holds c × EachHolds cs

  -- ---- w is the failure of a condition of line l that doesn't hold, `word` where it is neither `undefined` nor `range`

  module _ (word : Outcome) (l : ℕ) where
    unfoldable mutual
      pub NotSo : Cond → Outcome → Type 0
      NotSo (all cs) w = FirstPart cs w
      NotSo (atom yes' r) w = ¬ (Holds (atom yes' r)) × (w ≡ word)
      NotSo (same yes' a b) w = ¬ (Holds (same yes' a b)) × (w ≡ word)
      NotSo (compare yes' op a b) w =
          NoValue g s.numbers os l a w
          ⊎ ((x : ℤ) × HasValue g s.numbers os a x × (NoValue g s.numbers os l b w
          ⊎ ((y : ℤ) × HasValue g s.numbers os b y × (¬ (compared op x y ≡ yes') × (w ≡ word)))))

      -- "up to the first that doesn't hold": every part before it holds
      pub FirstPart : Conds → Outcome → Type 0
      FirstPart none w = ⊥
      FirstPart (cons c cs) w = NotSo c w ⊎ (Holds c × FirstPart cs w)

    -- the same of conditions that are not under one `and`
    abbrev pub FirstNotSo : List Cond → Outcome → Type 0
    FirstNotSo cs w = First Holds (λ c. NotSo c w) cs
