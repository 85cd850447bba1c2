-- Numbers that are read where they stand in a text, with the place where they end: what the code answers while it reads. The numbers themselves are those
-- of `Numbers`.
use Rattle.std.specs.Prelude.{ℕ, List, Bool, eqb, None, Option, Some}
use Rattle.text_tokens.specs.Numbers.{fraction_of, number_from}
use Rattle.text_tokens.specs.Runs.{part, run_end}

-- whether the run has its end at p
unfoldable pub is_over : List ℕ → ℕ → ℕ → Bool
is_over s stop p = eqb (run_end s stop p) p

abbrev pub with_end : Option ℕ → ℕ → Option (ℕ × ℕ)
with_end (Some m) e = Some (m, e)
with_end None e = None

-- after a whole part and its point, to the end of the run at p
unfoldable pub decimals_at : List ℕ → ℕ → ℕ → ℕ → Option (ℕ × ℕ)
decimals_at s stop whole p = with_end (fraction_of whole (part s p (run_end s stop p))) (run_end s stop p)

-- the run at p as a number
unfoldable pub figure_at : List ℕ → ℕ → ℕ → Option (ℕ × ℕ)
figure_at s stop p = with_end (number_from (part s p (run_end s stop p))) (run_end s stop p)
