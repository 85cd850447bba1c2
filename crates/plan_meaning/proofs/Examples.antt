-- Worked examples: the cases of RULES 14, from the plan's bytes to the verdict, and lines that are refused.
use mathlib.Core.Path.{◌≡◌, refl}
use Prim.Native.Nat.{ℕ, zero, suc}
use Prim.Native.String.{String}
use mathlib.Core.List.{List, [], ◌∷◌, ◌++◌, map}
use mathlib.Core.Option.{some, none}
use lib.IntN.{pos}
use Rattle.text_words.specs.Bytes.{bytes}
use Rattle.text_tokens.proofs.Examples.{open_tokens}
use Rattle.domain_meaning.specs.Indexes.{padded}
use Rattle.domain_meaning.specs.Tables.{lookup, declared, is_below}
use Rattle.domain_meaning.proofs.Bench.{bench, two_doses, open_bench}
use Rattle.happening_meaning.specs.State.{State, Grounds}
use Rattle.happening_meaning.specs.Happening.{promises}
use Rattle.happening_meaning.specs.declared.Outcome.{Outcome}
use Rattle.happening_meaning.specs.declared.Outcome.TheVariants.{Done, Duration, Condition, Conflict, Invariant, Goal}
use Rattle.happening_meaning.proofs.Examples.{open_happenings}
use Rattle.plan_meaning.specs.Plan.{Span, moment, lasting, Run, going, failed, Rules, up_to, verdict, Answer, step, Limits, first_refusal, Result, result}
use Rattle.plan_meaning.specs.Plan as P
use Rattle.plan_meaning.specs.Text.{meaning}
use Rattle.plan_meaning.specs.Promised.{Act, rules_of}
use Rattle.plan_meaning.specs.Lines.{Known, mark, opening, name, line_end, start_at, argument, fits, objects_to, duration_in, span_of, act_at, line_at, Refused}
use Rattle.plan_meaning.specs.Lines.{reader, limits}

-- on an `unfolding` line this opens all that a plan's text goes through
unfoldable pub open_plans : Unit {0}
unfolding open_tokens open_happenings lookup declared is_below padded mark opening name line_end start_at argument fits objects_to duration_in span_of act_at
    line_at up_to verdict first_refusal result meaning
open_plans = tt

-- pumps a and b; `ready` and `on` of each, `lock` and `doses` of each
abbrev grounds : Grounds
grounds = record { objects = 2; facts = 0 ∷ 2 ∷ []; numbers = 0 ∷ 2 ∷ [] }

abbrev first : State
first = record { facts = 1 ∷ 1 ∷ 1 ∷ 1 ∷ []; numbers = pos 5000 ∷ pos 5000 ∷ pos 0 ∷ pos 0 ∷ [] }

abbrev rules : Rules State Act Outcome
rules = rules_of (promises grounds two_doses.goal) bench.actions first

-- ---- from the plan's text

abbrev known : Known
known = record { types = bench.types; objects = two_doses.objects; actions = bench.actions }

-- number, line and column of a refusal; or the verdict, its time
pub data Shown : Type 0 where
  refuses : ℕ → ℕ → ℕ → Shown
  says : Outcome → ℕ → Shown

abbrev says_of : Run State Outcome → Shown
says_of (going s t) = says Done t
says_of (failed s t w) = says w t

abbrev shown : Result State Outcome Refused → Shown
shown (P.refused r) = refuses r.number r.line r.column
shown (P.ended r) = says_of r

abbrev answers : List String → List Shown
answers ts = map (λ t. shown (meaning rules limits (reader known) (bytes t))) ts

starred : answers (
    "0: (dose a) [5]\n5.001: (dose a) [5]\n"
    ∷ "0: (dose a) [5]\n5: (dose a) [5]"
    ∷ "0: (dose a) [5]\n2: (off a)\n"
    ∷ "0: (dose a) [5]\n5.001: (dose a) [5]\n10.001: (off a)\n"
    ∷ "0: (dose a) [5]\n0: (off a)\n"
    ∷ ""
    ∷ "0: (off a)\n0: (off a)\n"
    ∷ "0: (dose a) [4]"
    ∷ "0: (DOSE A) [5.000] ; a comment\n\n5: (note a)\n"
    ∷ "0: (dose a) [5]\n5: (zero a)"
    ∷ [])
    ≡ says Done 10001
    ∷ says (Condition 2) 5000
    ∷ says (Invariant 1) 2000
    ∷ says Done 10001
    ∷ says (Invariant 1) 0
    ∷ says Goal 0
    ∷ says (Conflict 1 2) 0
    ∷ says (Duration 1) 0
    ∷ says Done 5000
    ∷ says (Conflict 1 2) 5000
    ∷ []
unfolding open_plans open_bench
starred = refl

-- a plan refusal outranks every verdict, whatever has failed before it
refusals : answers (
    "0: (off a)\n0: (off a)\n0: (note"
    ∷ "0: (note ;"
    ∷ "0 (note a)"
    ∷ "0: note"
    ∷ "0: (note c)"
    ∷ "0: (nought a)"
    ∷ "0: (note a b)"
    ∷ "0: (note)"
    ∷ "5: (note a)\n4.999: (note c)"
    ∷ "0: (dose a)"
    ∷ "0: (note a) [5]"
    ∷ "0: (dose a) [0]"
    ∷ "0: (dose a) []"
    ∷ "0: (dose a) [5] [5]"
    ∷ "0: (dose a) [5"
    ∷ "-1: (note a)"
    ∷ "0: (note ?p)"
    ∷ [])
    ≡ refuses 4 3 9
    ∷ refuses 4 1 11
    ∷ refuses 3 1 3
    ∷ refuses 3 1 4
    ∷ refuses 8 1 10
    ∷ refuses 8 1 5
    ∷ refuses 9 1 12
    ∷ refuses 9 1 9
    ∷ refuses 16 2 1
    ∷ refuses 17 1 12
    ∷ refuses 17 1 13
    ∷ refuses 17 1 14
    ∷ refuses 3 1 14
    ∷ refuses 3 1 17
    ∷ refuses 4 1 15
    ∷ refuses 6 1 1
    ∷ refuses 3 1 10
    ∷ []
unfolding open_plans open_bench
refusals = refl

-- ---- waiting points: "the points of all lines so far whose time is not below that line's start"

abbrev two : Limits ℕ ℕ
two = record { waiting = 2; crowded = λ x. x.line }

-- a line's step: its number, its start, its span
abbrev on : ℕ → ℕ → Span → Answer ℕ ℕ
on l s d = step (record { line = l; start = s; span = d; act = 0 })

-- where two may wait, the line that is refused: a point at the line's own start still waits, one before it does not, an end does
crowds : map (first_refusal two []) (
    (on 1 0 moment ∷ on 2 0 moment ∷ [])
    ∷ (on 1 0 moment ∷ on 2 0 moment ∷ on 3 0 moment ∷ [])
    ∷ (on 1 0 moment ∷ on 2 0 moment ∷ on 3 1 moment ∷ [])
    ∷ (on 1 0 moment ∷ on 2 0 (lasting 1) ∷ [])
    ∷ (on 1 0 (lasting 5) ∷ on 2 5 moment ∷ on 3 5 moment ∷ [])
    ∷ (on 1 0 (lasting 5) ∷ on 2 6 moment ∷ on 3 6 moment ∷ [])
    ∷ [])
    ≡ none ∷ some 3 ∷ none ∷ some 2 ∷ some 3 ∷ none ∷ []
unfolding first_refusal
crowds = refl

-- so many lines `0: (note a)`
abbrev notes : ℕ → List ℕ
notes zero = []
notes (suc n) = bytes "0: (note a)\n" ++ notes n

-- "64 waiting points"; "18 too many waiting points: line end"
crowded : map (λ n. shown (meaning rules limits (reader known) (notes n))) (64 ∷ 65 ∷ []) ≡ says Done 0 ∷ refuses 18 65 12 ∷ []
unfolding open_plans open_bench
crowded = refl
