-- The value of any expression is a number of the range, or none. Assumes nothing.
use mathlib.Core.List.{List}
use Prim.Native.Nat.{ℕ}
use lib.IntN.{ℤ}
use Rattle.domain_meaning.specs.Terms.{Expr, number, value, minus, difference, plus}
use Rattle.happening_meaning.specs.State.{Grounds, number_of}
use Rattle.happening_meaning.specs.Truths.{value_of}
use Rattle.happening_amounts.specs.Ranged.{Ranged}
use Rattle.happening_amounts.proofs.Ranges.{ranged_within, ranged_stored, ranged_plus, ranged_minus, ranged_less}

pub value_ranged : (g : Grounds) (ns : List ℤ) (os : List ℕ) (e : Expr) → Ranged (value_of g ns os e)
unfolding value_of
value_ranged g ns os (number z) = ranged_within z
value_ranged g ns os (value r) = ranged_stored ns (number_of g os r)
value_ranged g ns os (minus e) = ranged_minus (value_of g ns os e)
value_ranged g ns os (difference a b) = ranged_less (value_of g ns os a) (value_of g ns os b)
value_ranged g ns os (plus a b) = ranged_plus (value_of g ns os a) (value_of g ns os b)
