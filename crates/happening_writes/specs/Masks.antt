-- What effects write, as 64 bits.
use Rattle.std.specs.Prelude.{ℕ, List, [], ◌∷◌, true, false}
use Rattle.std.specs.Int.Bits.{bit_or}
use Rattle.happening_meaning.specs.declared.Mark.{Mark}
use Rattle.happening_meaning.specs.declared.Mark.TheVariants.{Nothing, Fact, Number}
use Rattle.happening_state.specs.Masks.{fact_bit, number_bit}

-- a fact that is deleted has its bit as one that is added
unfoldable pub mark_bit : Mark → ℕ
mark_bit Nothing = 0
mark_bit (Fact true x) = fact_bit x
mark_bit (Fact false x) = fact_bit x
mark_bit (Number assigned x) = number_bit x

-- after the bits of w
unfoldable pub mask_from : ℕ → List Mark → ℕ
mask_from w [] = w
mask_from w (m ∷ ms) = mask_from (bit_or w (mark_bit m)) ms
