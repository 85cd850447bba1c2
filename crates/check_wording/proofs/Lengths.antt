-- How long a line is: at most 77 bytes for a verdict and 88 for a refusal, whatever their numbers; and at most 64 with numbers as texts can give them.
-- Assumes nothing.
use mathlib.Core.Path.{◌≡◌}
use mathlib.Core.List.{List}
use Prim.Native.Nat.{ℕ, ◌+◌, ◌/◌, ◌≤◌, ◌<◌}
use native.Mathlib.Omega.{arith}
use lib.ListN.{length, length-append}
use Rattle.text_words.specs.Bytes.{bytes}
use Rattle.happening_meaning.specs.declared.Outcome.{Outcome}
use Rattle.check_wording.specs.Wording.{decimal, word_of, line_of, second_of, verdict_line, refusal_line}
use Rattle.check_wording.proofs.Digits.{decimal_short, decimal_below}
use Rattle.check_wording.proofs.Whole.{word_short, time_length}

pub verdict_length : (o : Outcome) (t : ℕ)
    → length (verdict_line o t) ≡ length (word_of o) + length (decimal (t / 1000)) + length (decimal (line_of o)) + length (decimal (second_of o)) + 8
unfolding verdict_line
verdict_length o t = simp length-append (omega (arith, time_length t))

pub verdict_most : (o : Outcome) (t : ℕ) → length (verdict_line o t) ≤ 77
verdict_most o t =
    omega (arith, verdict_length o t, word_short o, decimal_short (t / 1000), decimal_short (line_of o), decimal_short (second_of o))

pub verdict_short : (o : Outcome) (t : ℕ) → t < 2000000000000 → line_of o ≤ 1000000 → second_of o ≤ 1000000 → length (verdict_line o t) ≤ 64
verdict_short o t h l m =
    omega (
      arith,
      verdict_length o t,
      word_short o,
      decimal_below 9 (t / 1000) (omega arith),
      decimal_below 6 (line_of o) (omega arith),
      decimal_below 6 (second_of o) (omega arith),
    )

pub refusal_length : (w : List ℕ) (k p q : ℕ) → length (refusal_line w k p q) ≡ length w + length (decimal k) + length (decimal p) + length (decimal q) + 12
unfolding refusal_line bytes
refusal_length w k p q = simp length-append (omega arith)

pub refusal_most : (w : List ℕ) (k p q : ℕ) → length w ≤ 16 → length (refusal_line w k p q) ≤ 88
refusal_most w k p q h = omega (arith, refusal_length w k p q, decimal_short k, decimal_short p, decimal_short q)

-- of a domain or problem, whatever the place
pub text_refusal_short : (w : List ℕ) (k p : ℕ) → length w ≤ 7 → length (refusal_line w k p 0) ≤ 64
text_refusal_short w k p h = omega (arith, refusal_length w k p 0, decimal_short k, decimal_short p, decimal_below 0 0 (omega arith))

-- of a plan of a million lines of 256 bytes
pub plan_refusal_short : (k p q : ℕ) → k < 100 → p < 10000000 → q < 1000 → length (refusal_line (bytes "plan") k p q) ≤ 64
unfolding bytes
plan_refusal_short k p q a b c =
    omega (arith, refusal_length (bytes "plan") k p q, decimal_below 1 k a, decimal_below 6 p b, decimal_below 2 q c)
