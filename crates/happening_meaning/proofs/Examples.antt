-- Worked examples: the traps of the bench of RULES 14 at one instant, by computation.
use mathlib.Core.Path.{◌≡◌, refl}
use Prim.Native.Nat.{ℕ}
use mathlib.Core.List.{List, [], ◌∷◌, map}
use lib.IntN.{ℤ, pos}
use lib.ListN.{get_or}
use Rattle.domain_meaning.specs.Tables.{entry}
use Rattle.domain_meaning.specs.Indexes.{digits, index_in}
use Rattle.domain_meaning.specs.Actions.{start, end, moment, Action}
use Rattle.domain_meaning.proofs.Bench.{bench, two_doses, open_bench}
use Rattle.happening_meaning.specs.State.{State, Grounds, is_true, inside, within, defined, number_at, plus_of, less_of}
use Rattle.happening_meaning.specs.Truths.{value_of, agrees, compared, compared_of, and_then, truth_of, truths_of, hold_all}
use Rattle.happening_meaning.specs.Writes.{some, expr_reads, cond_reads, conds_read, right_reads, mark_of, undo, collide, against, itself}
use Rattle.happening_meaning.specs.Happening.{Step, Point, step_of, parts_for, joined, unless, each, judged, lasting, tested, apart, rule_reads, reads_fact}
use Rattle.happening_meaning.specs.Happening.{reads_number, reads, interfere, clear, pairs, change_one, change_all, change_points, leaves, stays, without}
use Rattle.happening_meaning.specs.Happening.{with, each_mark, all_marks, happened, allowed, happening, spans, spanning, reached}
use Rattle.happening_meaning.specs.declared.Outcome.TheVariants.{Done, Duration, Condition, Undefined, Conflict, Invariant, Goal}

-- on an `unfolding` line this opens all that a happening goes through
unfoldable pub open_happenings : Unit {0}
unfolding is_true inside within defined number_at plus_of less_of digits index_in value_of agrees compared compared_of and_then truth_of truths_of hold_all some
    expr_reads cond_reads conds_read right_reads mark_of undo collide against itself parts_for joined unless each judged lasting tested apart rule_reads
    reads_fact reads_number reads interfere clear pairs change_one change_all change_points leaves stays without with each_mark all_marks allowed happening
    spans spanning reached
open_happenings = tt

-- ---- the bench: pumps a and b; `ready` and `on` of each, `lock` and `doses` of each

abbrev grounds : Grounds
grounds = record { objects = 2; facts = 0 ∷ 2 ∷ []; numbers = 0 ∷ 2 ∷ [] }

abbrev pub state : List ℕ → List ℤ → State
state fs ns = record { facts = fs; numbers = ns }

-- both ready and on, locks 5, doses 0
abbrev first : State
first = state (1 ∷ 1 ∷ 1 ∷ 1 ∷ []) (pos 5000 ∷ pos 5000 ∷ pos 0 ∷ pos 0 ∷ [])

-- while a's dose runs
abbrev dosing : State
dosing = state (0 ∷ 1 ∷ 1 ∷ 1 ∷ []) (pos 5000 ∷ pos 5000 ∷ pos 0 ∷ pos 0 ∷ [])

abbrev nothing : Action
nothing = record { declared = entry [] []; lasting = moment; conditions = []; effects = [] }

abbrev step : ℕ → ℕ → ℕ → Step
step l i d = step_of l (get_or bench.actions i nothing) (0 ∷ 0 ∷ 0 ∷ 0 ∷ []) d

abbrev begins : Step → Point
begins x = record { step = x; when = start }

abbrev ends : Step → Point
ends x = record { step = x; when = end }

abbrev dose : ℕ → Step
dose l = step l 0 5000

abbrev off : ℕ → Step
off l = step l 1 0

abbrev note : ℕ → Step
note l = step l 2 0

abbrev set_zero_lem : ℕ → Step
set_zero_lem l = step l 3 0

-- K2: the second dose needs `ready`, which only the first one's end gives in this instant
k2 : happening grounds dosing (ends (dose 1) ∷ begins (dose 2) ∷ []) ≡ happened (Condition 2) dosing
unfolding open_happenings open_bench
k2 = refl

-- K6: dose and off start together, and `over all` is tested just after
abbrev switched_off : State
switched_off = state (0 ∷ 1 ∷ 0 ∷ 1 ∷ []) (pos 5000 ∷ pos 5000 ∷ pos 0 ∷ pos 0 ∷ [])

k6 : happening grounds first (begins (dose 1) ∷ begins (off 2) ∷ []) ≡ happened Done switched_off
unfolding open_happenings open_bench
k6 = refl

k6_after : spanning grounds switched_off (dose 1 ∷ []) ≡ Invariant 1
unfolding open_happenings open_bench
k6_after = refl

-- K8: equal lines are two points
k8 : happening grounds first (begins (off 1) ∷ begins (off 2) ∷ []) ≡ happened (Conflict 1 2) first
unfolding open_happenings open_bench
k8 = refl

-- K9: the duration rule
k9 : happening grounds first (begins (step 1 0 4000) ∷ []) ≡ happened (Duration 1) first
unfolding open_happenings open_bench
k9 = refl

-- K10: both only raise `doses`
k10 : happening grounds dosing (ends (dose 1) ∷ begins (note 2) ∷ [])
    ≡ happened Done (state (1 ∷ 1 ∷ 1 ∷ 1 ∷ []) (pos 5000 ∷ pos 5000 ∷ pos 2000 ∷ pos 0 ∷ []))
unfolding open_happenings open_bench
k10 = refl

-- K11: the printed union would let the assignment meet the rise
k11 : happening grounds dosing (ends (dose 1) ∷ begins (set_zero_lem 2) ∷ []) ≡ happened (Conflict 1 2) dosing
unfolding open_happenings open_bench
k11 = refl

-- the goal: doses of a at least 2
goals : map (reached grounds two_doses.goal) (first ∷ state [] (pos 5000 ∷ pos 5000 ∷ pos 2000 ∷ []) ∷ state [] [] ∷ []) ≡ Goal ∷ Done ∷ Undefined 0 ∷ []
unfolding open_happenings open_bench
goals = refl
