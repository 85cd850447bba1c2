-- A whole session: load, feed the plan's parts, finish; then ask for the line, the facts and the numbers.
use Prim.Native.Nat.{ℕ}
use mathlib.Core.List.{List, [], ◌∷◌}
use Rattle.domain_load.specs.declared.LoadAnswer.{LoadAnswer}
use Rattle.domain_load.specs.declared.LoadAnswer.TheVariants as Is
use Rattle.check_calls.specs.Calls.{feed_of, finish_of, result_of, open_of, line_of}
use Rattle.check_calls.specs.declared.Check.{Check}
use Rattle.check_calls.specs.declared.Answer.{Answer}
use Rattle.check_calls.specs.declared.Answer.TheVariants as A

unfoldable pub feeds_of : Check → List (List ℕ) → Check
feeds_of c [] = c
feeds_of c (p ∷ ps) = feeds_of (feed_of c p).check ps

-- the check after load, all parts and finish
abbrev pub session_of : List ℕ → List ℕ → List (List ℕ) → Check
session_of domain problem parts = (finish_of (feeds_of (open_of domain problem).check parts)).check

-- the lent line: a refused load's is written from its answer
abbrev pub asked_line_lem : LoadAnswer → Check → List ℕ → List ℕ
asked_line_lem Is.Loaded c line = (result_of c line).1
asked_line_lem (Is.Domain k p) c line = (line_of (Is.Domain k p) line).1
asked_line_lem (Is.Problem k p) c line = (line_of (Is.Problem k p) line).1

-- the refusals of a call that can't be made so: 19 to 23
abbrev pub Misused : Answer → Type 0
Misused (A.Done n) = ⊥
Misused (A.Refused k l c) = ⊥
Misused A.Unformed = Unit {0}
Misused A.Short = Unit {0}
Misused A.Late = Unit {0}
Misused A.Early = Unit {0}
Misused A.Stateless = Unit {0}
