-- Lines of RULES 12 and RULES 14, from what they say to their bytes.
use mathlib.Core.Path.{◌≡◌, refl}
use mathlib.Core.List.{[], ◌∷◌}
use Rattle.text_words.specs.Bytes.{bytes}
use Rattle.happening_meaning.specs.declared.Outcome.TheVariants.{Done, Conflict, Invariant, Goal}
use Rattle.check_wording.specs.Wording.{decimal_to, decimal, time_of, word_of, line_of, second_of, verdict_line, refusal_line}

verdicts : verdict_line Done 10001 ∷ verdict_line (Conflict 1 2) 5000 ∷ verdict_line (Invariant 1) 2000 ∷ verdict_line Goal 0 ∷ []
    ≡ bytes "valid 10.001 0 0\n" ∷ bytes "conflict 5.000 1 2\n" ∷ bytes "invariant 2.000 1 0\n" ∷ bytes "goal 0.000 0 0\n" ∷ []
unfolding bytes decimal_to time_of word_of line_of second_of verdict_line
verdicts = refl

refusals : refusal_line (bytes "plan") 16 2 1 ∷ refusal_line (bytes "domain") 8 133 0 ∷ []
    ≡ bytes "refused plan 16 2 1\n" ∷ bytes "refused domain 8 133 0\n" ∷ []
unfolding bytes decimal_to refusal_line
refusals = refl

-- from the least number of 64 bits to the greatest
numbers : decimal 0 ∷ decimal 9 ∷ decimal 10 ∷ decimal 100 ∷ decimal 18446744073709551615 ∷ []
    ≡ bytes "0" ∷ bytes "9" ∷ bytes "10" ∷ bytes "100" ∷ bytes "18446744073709551615" ∷ []
unfolding bytes decimal_to
numbers = refl
