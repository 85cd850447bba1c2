-- The number and place of each answer of the calls, as in RULES 7 and RULES 13. The promises speak of them by this definition.
use Rattle.std.specs.Prelude.{ℕ}
use Rattle.domain_load.specs.declared.LoadAnswer.{LoadAnswer}
use Rattle.domain_load.specs.declared.LoadAnswer.TheVariants as Is
use Rattle.check_calls.specs.declared.Answer.{Answer}
use Rattle.check_calls.specs.declared.Answer.TheVariants as A

-- 0 where nothing is refused
abbrev pub number_of : Answer → ℕ
number_of (A.Done n) = 0
number_of (A.Refused k l c) = k
number_of A.Unformed = 19
number_of A.Short = 20
number_of A.Late = 21
number_of A.Early = 22
number_of A.Stateless = 23

-- of a plan refusal line and column, else 0 0
abbrev pub place_of : Answer → ℕ × ℕ
place_of (A.Done n) = (0, 0)
place_of (A.Refused k l c) = (l, c)
place_of A.Unformed = (0, 0)
place_of A.Short = (0, 0)
place_of A.Late = (0, 0)
place_of A.Early = (0, 0)
place_of A.Stateless = (0, 0)

-- a plan refusal, told from the other answers
abbrev pub on_refused : {X : Type 0} → Answer → (ℕ → ℕ → ℕ → X) → X → X
on_refused (A.Done n) f x = x
on_refused (A.Refused k l c) f x = f k l c
on_refused A.Unformed f x = x
on_refused A.Short f x = x
on_refused A.Late f x = x
on_refused A.Early f x = x
on_refused A.Stateless f x = x

-- the same of load: which number, and at which byte of the text that is refused
abbrev pub load_number : LoadAnswer → ℕ
load_number Is.Loaded = 0
load_number (Is.Domain k p) = k
load_number (Is.Problem k p) = k

abbrev pub load_place : LoadAnswer → ℕ
load_place Is.Loaded = 0
load_place (Is.Domain k p) = p
load_place (Is.Problem k p) = p
