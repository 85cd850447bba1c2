-- Step 4 as code does it: one effect on a number, by what it does, its index and the value of its right side; and room for exact sums.
use Rattle.std.specs.Prelude.{◌≡◌, ℕ, ◌+◌, ◌*◌, ◌≤◌, ◌<◌, ◌^◌, List, [], ◌∷◌, Bool, true, false, cond, ℤ, set}
use Rattle.std.specs.Int.Signed.{mag}
use Rattle.domain_meaning.specs.Effects.{Change, assign, raise, lower}
use Rattle.happening_meaning.specs.State.{inside, number_at, stored}
use Rattle.happening_meaning.specs.Happening.{Made, made, on_needed, needed, set_number, with, without}
use Rattle.happening_meaning.specs.declared.Value.{Value}
use Rattle.happening_meaning.specs.declared.Mark.{Mark}
use Rattle.happening_meaning.specs.declared.Mark.TheVariants.{Nothing, Fact, Number}
use Rattle.happening_meaning.specs.declared.Outcome.{Outcome}
use Rattle.happening_meaning.specs.declared.Outcome.TheVariants.{Done}
use Rattle.happening_writes.specs.declared.rows.How.{How}
use Rattle.happening_writes.specs.declared.rows.How.TheVariants.{Assigned, Raised, Lowered}

-- what is done to a number, by the code's word for it
abbrev pub change_in : How → Change
change_in Assigned = assign
change_in Raised = raise
change_in Lowered = lower

-- what a value that is no number comes to
unfoldable pub blamed : ℕ → Value → Outcome
blamed l v = (on_needed l [] v (λ z. made Done [])).outcome

unfoldable pub shifted : ℕ → List ℤ → List ℤ → ℕ → Bool → ℤ → Made
shifted l old ns x raises z = on_needed l ns (stored old x) (λ _. made Done (set_number (cond raises raise lower) ns x z))

unfoldable pub change_by : ℕ → List ℤ → List ℤ → Change → ℕ → Value → Made
change_by l old ns how x v = on_needed l ns v (λ z. on_needed l ns (needed how old x) (λ _. made Done (set_number how ns x z)))

-- ---- "the exact sum": where the old number is defined, the new one so far is at most m away from 0

abbrev pub Bounded : ℕ → List ℤ → List ℤ → Type 0
Bounded m old ns = (x : ℕ) → inside (number_at old x) ≡ true → mag (number_at ns x) ≤ m

-- so many effects more still sum exactly: each adds at most a million million
abbrev pub Room : ℕ → List ℤ → List ℤ → Type 0
Room n old ns = (m : ℕ) × Bounded m old ns × (m + 1000000000000 * n < 2 ^ 61)

-- ---- two tables of numbers made equal, and facts

unfoldable pub settle_one : List ℤ → List ℤ → Mark → List ℤ
settle_one source target Nothing = target
settle_one source target (Fact a x) = target
settle_one source target (Number a x) = set target x (number_at source x)

unfoldable pub settle_all : List ℤ → List ℤ → List Mark → List ℤ
settle_all source target [] = target
settle_all source target (m ∷ ms) = settle_all source (settle_one source target m) ms

abbrev pub write_fact : Bool → List ℕ → Mark → List ℕ
write_fact add = cond add with without

-- whether an effect makes a fact true
unfoldable pub adds : Mark → Bool
adds Nothing = false
adds (Fact added x) = added
adds (Number a x) = false
