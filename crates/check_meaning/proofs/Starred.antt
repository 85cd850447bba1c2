-- The cases of RULES 14 but K9, from the bytes of the bench's texts to the bytes of the line.
use mathlib.Core.Path.{◌≡◌, refl, ◌∙◌}
use Prim.Native.Nat.{ℕ}
use Prim.Native.String.{String}
use mathlib.Core.List.{List, [], ◌∷◌, map}
use mathlib.Core.Option.{Option}
use lib.IntN.{pos}
use Rattle.text_words.specs.Bytes.{bytes}
use Rattle.domain_meaning.specs.Indexes.{sum_of, bases_from}
use Rattle.domain_meaning.proofs.Bench.{bench, two_doses, bench_text, problem_bytes, bench_read, problem_read, open_bench}
use Rattle.domain_meaning.specs.First.{no_facts, no_numbers, facts_from, numbers_from, first_facts, first_numbers}
use Rattle.plan_meaning.proofs.Examples.{open_plans}
use Rattle.check_wording.specs.Wording.{decimal_to, time_of, word_of, line_of, second_of, verdict_line, refusal_line}
use Rattle.check_meaning.specs.Answer.{Final, grounds_of, of_plan, plan_answer, answer}

-- on an `unfolding` line this opens all that the answer to a plan goes through
unfoldable pub open_answers : Unit {0}
unfolding open_plans grounds_of of_plan plan_answer verdict_line refusal_line decimal_to time_of word_of line_of second_of sum_of no_facts no_numbers facts_from
    numbers_from first_facts first_numbers bases_from
open_answers = tt

-- the bench's domain and problem are read; a plan is left
pub bench_answer : (plan : List ℕ) → answer bench_text problem_bytes plan ≡ plan_answer bench two_doses plan
unfolding answer
bench_answer plan = rw (bench_read, problem_read)

abbrev k1 : String
k1 = "0: (dose a) [5]\n5.001: (dose a) [5]\n"

-- K1, K2, K4 to K8, K10, K11
abbrev pub plans : List String
plans =
    k1
    ∷ "0: (dose a) [5]\n5: (dose a) [5]\n"
    ∷ "0: (dose a) [5]\n2: (off a)\n"
    ∷ "0: (dose a) [5]\n5.001: (dose a) [5]\n10.001: (off a)\n"
    ∷ "0: (dose a) [5]\n0: (off a)\n"
    ∷ ""
    ∷ "0: (off a)\n0: (off a)\n"
    ∷ "0: (dose a) [5]\n5: (note a)\n"
    ∷ "0: (dose a) [5]\n5: (zero a)\n"
    ∷ []

abbrev pub lines : List String
lines =
    "valid 10.001 0 0\n"
    ∷ "condition 5.000 2 0\n"
    ∷ "invariant 2.000 1 0\n"
    ∷ "valid 10.001 0 0\n"
    ∷ "invariant 0.000 1 0\n"
    ∷ "goal 0.000 0 0\n"
    ∷ "conflict 0.000 1 2\n"
    ∷ "valid 5.000 0 0\n"
    ∷ "conflict 5.000 1 2\n"
    ∷ []

-- the facts `ready` of a and b, then `on`; the locks 5, so many doses of a in thousandths, none of b
abbrev final : List ℕ → ℕ → Option Final
final facts doses = Option.some (record { facts = facts; numbers = pos 5000 ∷ pos 5000 ∷ pos doses ∷ pos 0 ∷ [] })

abbrev ended : Option Final
ended = final (1 ∷ 1 ∷ 1 ∷ 1 ∷ []) 2000

abbrev late : String
late = "5: (note a)\n4.999: (note c)"

computed : (map (λ (plan : String). (plan_answer bench two_doses (bytes plan)).line) plans ≡ map bytes lines)
    × ((plan_answer bench two_doses (bytes k1)).final ≡ ended)
    × ((plan_answer bench two_doses (bytes late)).line ≡ bytes "refused plan 16 2 1\n")
unfolding open_answers open_bench
computed = (refl, refl, refl)

pub starred : map (λ (plan : String). (answer bench_text problem_bytes (bytes plan)).line) plans ≡ map bytes lines
starred = (λ i. map (λ (plan : String). (bench_answer (bytes plan) i).line) plans) ∙ computed.0

-- K1 leaves both pumps ready and on, the locks 5, two doses of a
pub k1_final : (answer bench_text problem_bytes (bytes k1)).final ≡ ended
k1_final = (λ i. (bench_answer (bytes k1) i).final) ∙ computed.1

pub plan_refused : (answer bench_text problem_bytes (bytes late)).line ≡ bytes "refused plan 16 2 1\n"
plan_refused = (λ i. (bench_answer (bytes late) i).line) ∙ computed.2

-- "Final facts and numbers: those before the failing happening; after it, if step 5 failed; the last ones for `valid` or a goal failure.": K2, whose
-- second dose needs `ready`; K4, where `on` is gone; K7 and K10
abbrev pub final_plans : List String
final_plans = "0: (dose a) [5]\n5: (dose a) [5]\n" ∷ "0: (dose a) [5]\n2: (off a)\n" ∷ "" ∷ "0: (dose a) [5]\n5: (note a)\n" ∷ []

finals_computed : map (λ (plan : String). (plan_answer bench two_doses (bytes plan)).final) final_plans
    ≡ final (0 ∷ 1 ∷ 1 ∷ 1 ∷ []) 0 ∷ final (0 ∷ 1 ∷ 0 ∷ 1 ∷ []) 0 ∷ final (1 ∷ 1 ∷ 1 ∷ 1 ∷ []) 0 ∷ final (1 ∷ 1 ∷ 1 ∷ 1 ∷ []) 2000 ∷ []
unfolding open_answers open_bench
finals_computed = refl

pub finals : map (λ (plan : String). (answer bench_text problem_bytes (bytes plan)).final) final_plans
    ≡ final (0 ∷ 1 ∷ 1 ∷ 1 ∷ []) 0 ∷ final (0 ∷ 1 ∷ 0 ∷ 1 ∷ []) 0 ∷ final (1 ∷ 1 ∷ 1 ∷ 1 ∷ []) 0 ∷ final (1 ∷ 1 ∷ 1 ∷ 1 ∷ []) 2000 ∷ []
finals = (λ i. map (λ (plan : String). (bench_answer (bytes plan) i).final) final_plans) ∙ finals_computed
