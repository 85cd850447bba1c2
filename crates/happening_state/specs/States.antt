-- A state of two slices.
use Rattle.std.specs.Prelude.{ℕ, List, ℤ}
use Rattle.happening_meaning.specs.State.{State}

abbrev pub state_in : List ℕ → List ℤ → State
state_in facts numbers = record { facts = facts; numbers = numbers }
