-- The value of an expression, and the first part that has none: "Parts are taken left to right, a part before the whole; the first `undefined` or
-- `range` decides." RULES 9.
use Rattle.std.specs.Prelude.{ℕ, true, List, ◌⊎◌, ◌≡◌, ℤ, neg_ℤ, ◌+ℤ◌, ◌-ℤ◌}
use Rattle.domain_meaning.specs.Terms.{Expr, number, value, minus, difference, plus}
use Rattle.happening_meaning.specs.State.{Grounds, inside, number_at, number_of}
use Rattle.happening_meaning.specs.declared.Outcome.{Outcome}
use Rattle.happening_meaning.specs.declared.Outcome.TheVariants.{Undefined, Range}

-- "Numbers lie within ±1,000,000,000,000 thousandths."
abbrev pub InRange : ℤ → Type 0
InRange z = inside z ≡ true

-- z is v, and no number outside
abbrev pub Is : ℤ → ℤ → Type 0
Is v z = (z ≡ v) × InRange z

-- ns are the numbers of the state, os the objects of the step
module _ (g : Grounds) (ns : List ℤ) (os : List ℕ) where
  -- the expression and all its parts have values, its own is z; an undefined number lies outside the range
  unfoldable pub HasValue : Expr → ℤ → Type 0
  HasValue (number n) z = Is n z
  HasValue (value r) z = Is (number_at ns (number_of g os r)) z
  HasValue (minus e) z = (x : ℤ) × HasValue e x × Is (neg_ℤ x) z
  HasValue (difference a b) z = (x : ℤ) × HasValue a x × ((y : ℤ) × HasValue b y × Is (x -ℤ y) z)
  HasValue (plus a b) z = (x : ℤ) × HasValue a x × ((y : ℤ) × HasValue b y × Is (x +ℤ y) z)

  abbrev pub Evaluates : Expr → Type 0
  Evaluates e = (z : ℤ) × HasValue e z

  -- w is the failure of line l that the expression gives: of its first part without a value, else of the whole.
  -- "An expression any part of which leaves it is `range`"; "Reading .. an undefined number is `undefined`."
  unfoldable pub NoValue : ℕ → Expr → Outcome → Type 0
  NoValue l (number n) w = ¬ (InRange n) × (w ≡ Range l)
  NoValue l (value r) w = ¬ (InRange (number_at ns (number_of g os r))) × (w ≡ Undefined l)
  NoValue l (minus e) w = NoValue l e w ⊎ ((x : ℤ) × HasValue e x × (¬ (InRange (neg_ℤ x)) × (w ≡ Range l)))
  NoValue l (difference a b) w =
      NoValue l a w ⊎ ((x : ℤ) × HasValue a x × (NoValue l b w ⊎ ((y : ℤ) × HasValue b y × (¬ (InRange (x -ℤ y)) × (w ≡ Range l)))))
  NoValue l (plus a b) w =
      NoValue l a w ⊎ ((x : ℤ) × HasValue a x × (NoValue l b w ⊎ ((y : ℤ) × HasValue b y × (¬ (InRange (x +ℤ y)) × (w ≡ Range l)))))
