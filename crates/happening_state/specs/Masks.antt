-- Facts and numbers as 64 bits: each has one, so a bit may stand for several, but nothing is left out.
use Rattle.std.specs.Prelude.{ℕ, ◌+◌, ◌/◌, ◌%◌, ◌^◌, ◌≡◌, Bool, false, eqb}
use Rattle.happening_meaning.specs.State.{State, is_true, number_at}

unfoldable pub bit_of : ℕ → ℕ
bit_of x = 2 ^ (x % 64)

-- whether the bit of x is set
unfoldable pub has : ℕ → ℕ → Bool
has mask x = eqb (mask / 2 ^ (x % 64) % 2) 1

abbrev pub fact_bit : ℕ → ℕ
fact_bit i = bit_of i

abbrev pub number_bit : ℕ → ℕ
number_bit i = bit_of (i + 32)

-- two states differ only in facts and numbers whose bits are in w
pub record Touched (w : ℕ) (s t : State) : Type 0 where
  pub facts : (x : ℕ) → has w x ≡ false → is_true s.facts x ≡ is_true t.facts x
  pub numbers : (x : ℕ) → has w (x + 32) ≡ false → number_at s.numbers x ≡ number_at t.numbers x
