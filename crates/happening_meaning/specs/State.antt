-- A state, the numbers in it, and the place of a fact or number in it. RULES 8.
use Rattle.std.specs.Prelude.{ℕ, List, Bool, cond, ◌&&◌, eqb, get_or, ℤ, pos, negsuc, neg_ℤ, ◌+ℤ◌, ◌-ℤ◌}
use Rattle.std.specs.Int.Signed.{le_z}
use Rattle.domain_meaning.specs.Terms.{Ref}
use Rattle.domain_meaning.specs.Indexes.{index_in}
use Rattle.domain_meaning.specs.First.{undefined}
use Rattle.happening_meaning.specs.declared.Value.{Value}
use Rattle.happening_meaning.specs.declared.Value.TheVariants.{Number, Undefined, Range}

-- facts by their index, 1 if true; ground numbers by theirs
pub record State : Type 0 where
  pub facts : List ℕ
  pub numbers : List ℤ

unfoldable pub is_true : List ℕ → ℕ → Bool
is_true facts i = eqb (get_or facts i 0) 1

-- ---- "Numbers lie within ±1,000,000,000,000 thousandths."

unfoldable pub inside : ℤ → Bool
inside z = le_z z (pos 1000000000000) && le_z (negsuc 999999999999) z

-- "An expression any part of which leaves it is `range`"
unfoldable pub within : ℤ → Value
within z = cond (inside z) (Number z) Range

-- what lies outside the range is no number
unfoldable pub defined : ℤ → Value
defined z = cond (inside z) (Number z) Undefined

-- past the end no number is defined
unfoldable pub number_at : List ℤ → ℕ → ℤ
number_at numbers i = get_or numbers i undefined

abbrev pub stored : List ℤ → ℕ → Value
stored numbers i = defined (number_at numbers i)

-- "the first `undefined` or `range` decides"
abbrev pub on_number : Value → (ℤ → Value) → Value
on_number (Number x) f = f x
on_number Undefined f = Undefined
on_number Range f = Range

unfoldable pub plus_of : Value → Value → Value
plus_of a b = on_number a (λ x. on_number b (λ y. within (x +ℤ y)))

unfoldable pub less_of : Value → Value → Value
less_of a b = on_number a (λ x. on_number b (λ y. within (x -ℤ y)))

-- "Minus of a number is exact over the whole range."
abbrev pub minus_of : Value → Value
minus_of a = on_number a (λ x. within (neg_ℤ x))

-- ---- where facts and numbers lie

-- how many objects there are, and the first index of each predicate and of each function
pub record Grounds : Type 0 where
  pub objects : ℕ
  pub facts : List ℕ
  pub numbers : List ℕ

-- the index of a fact, os being the objects of the step
abbrev pub fact_of : Grounds → List ℕ → Ref → ℕ
fact_of g os r = index_in g.facts g.objects os r

-- "a number's likewise"
abbrev pub number_of : Grounds → List ℕ → Ref → ℕ
number_of g os r = index_in g.numbers g.objects os r
