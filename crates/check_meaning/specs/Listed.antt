-- The tables of RULES 7 and RULES 12: which numbers a text can be refused by and with which places, and what a verdict can name; the plan part of them
-- is that of `plan_meaning`. Tests of numbers.
use Rattle.std.specs.Prelude.{ℕ, Bool, true, cond, ◌&&◌, eqb, leb, ltb}
pub use Rattle.plan_meaning.specs.Listed.{listed_line, listed_in_plan}
use Rattle.happening_meaning.specs.declared.Outcome.{Outcome}
use Rattle.happening_meaning.specs.declared.Outcome.TheVariants.{Done, Duration, Condition, Undefined, Range, Itself, Conflict, Invariant, Goal}

-- ---- domain and problem, of so many bytes: "Places are byte offsets from 0"

-- "1 domain or problem too long: 32,768"; every other place is that of a byte or the text's end
unfoldable pub listed_in_text : ℕ → ℕ → ℕ → ℕ → Bool
listed_in_text most size k p = cond (eqb k 1) (ltb 32768 size && eqb p 32768) (leb 2 k && leb k most && leb p size && leb p 32768)

abbrev pub listed_in_domain : ℕ → ℕ → ℕ → Bool
listed_in_domain size k p = listed_in_text 12 size k p

-- "13 problem names another domain"
abbrev pub listed_in_problem : ℕ → ℕ → ℕ → Bool
listed_in_problem size k p = listed_in_text 13 size k p

-- ---- a verdict: its lines are lines of the plan; "failures at the goal have .. lines 0 0"

unfoldable pub listed_verdict : Outcome → Bool
listed_verdict Done = true
listed_verdict (Duration l) = listed_line l
listed_verdict (Condition l) = listed_line l
listed_verdict (Undefined l) = leb l 1000000
listed_verdict (Range l) = leb l 1000000
listed_verdict (Itself l) = listed_line l
listed_verdict (Conflict l m) = listed_line l && listed_line m
listed_verdict (Invariant l) = listed_line l
listed_verdict Goal = true

-- a start and a duration are below 1,000,000,000,000 thousandths each, so their sum is below twice that
unfoldable pub listed_time : ℕ → Bool
listed_time t = ltb t 2000000000000
