-- The value of an expression, and whether a condition holds. RULES 9.
use Rattle.std.specs.Prelude.{ℕ, List, [], ◌∷◌, Bool, true, false, not, ◌&&◌, eqb, ℤ}
use Rattle.std.specs.Int.Signed.{le_z}
use Rattle.domain_meaning.specs.Terms.{Expr, number, value, minus, difference, plus}
use Rattle.domain_meaning.specs.Conditions.{Comparison, Cond, Conds, all, atom, same, compare, none, cons}
use Rattle.domain_meaning.specs.Conditions as C
use Rattle.happening_meaning.specs.State.{State, Grounds, is_true, within, stored, plus_of, less_of, minus_of, fact_of, number_of}
use Rattle.domain_meaning.specs.Indexes.{object_of}
use Rattle.happening_meaning.specs.declared.Value.{Value}
use Rattle.happening_meaning.specs.declared.Value.TheVariants as Is
use Rattle.happening_meaning.specs.declared.Truth.{Truth}
use Rattle.happening_meaning.specs.declared.Truth.TheVariants.{Holds, Fails, Undefined, Range}

-- "Parts are taken left to right, a part before the whole"
unfoldable pub value_of : Grounds → List ℤ → List ℕ → Expr → Value
value_of g ns os (number z) = within z
value_of g ns os (value r) = stored ns (number_of g os r)
value_of g ns os (minus e) = minus_of (value_of g ns os e)
value_of g ns os (difference a b) = less_of (value_of g ns os a) (value_of g ns os b)
value_of g ns os (plus a b) = plus_of (value_of g ns os a) (value_of g ns os b)

-- ---- conditions

-- what is so, against what is wanted: as it is written, or under `not`
unfoldable pub agrees : Bool → Bool → Truth
agrees true true = Holds
agrees true false = Fails
agrees false true = Fails
agrees false false = Holds

unfoldable pub compared : Comparison → ℤ → ℤ → Bool
compared C.equal x y = le_z x y && le_z y x
compared C.less x y = not (le_z y x)
compared C.at_most x y = le_z x y
compared C.more x y = not (le_z x y)
compared C.at_least x y = le_z y x

-- "the first `undefined` or `range` decides"
abbrev pub on_value : Value → (ℤ → Truth) → Truth
on_value (Is.Number x) f = f x
on_value Is.Undefined f = Undefined
on_value Is.Range f = Range

unfoldable pub compared_of : Bool → Comparison → Value → Value → Truth
compared_of yes' op a b = on_value a (λ x. on_value b (λ y. agrees yes' (compared op x y)))

-- "conditions as written, up to the first that doesn't hold"
unfoldable pub and_then : Truth → Truth → Truth
and_then Holds t = t
and_then Fails t = Fails
and_then Undefined t = Undefined
and_then Range t = Range

module _ (g : Grounds) (s : State) (os : List ℕ) where
  unfoldable mutual
    pub truth_of : Cond → Truth
    truth_of (all cs) = truths_of cs
    truth_of (atom yes' r) = agrees yes' (is_true s.facts (fact_of g os r))
    truth_of (same yes' a b) = agrees yes' (eqb (object_of os a) (object_of os b))
    truth_of (compare yes' op a b) = compared_of yes' op (value_of g s.numbers os a) (value_of g s.numbers os b)

    -- "An `and` holds conditions ..; an empty one holds."
    pub truths_of : Conds → Truth
    truths_of none = Holds
    truths_of (cons c cs) = and_then (truth_of c) (truths_of cs)

  unfoldable pub hold_all : List Cond → Truth
  hold_all [] = Holds
  hold_all (c ∷ cs) = and_then (truth_of c) (hold_all cs)
