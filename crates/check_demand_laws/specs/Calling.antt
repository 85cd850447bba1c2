-- The calls of a plan checker as its caller sees them: what is handed over and what comes back. Nothing here says what they do. RULES 13.
use Rattle.std.specs.Prelude.{ℕ, Bool, List, [], ◌∷◌, ℤ}
use Rattle.std.proofs.Math.Option.{Option}
use Rattle.plan_meaning.specs.Lines.{Refused}
use Rattle.domain_load.specs.declared.LoadAnswer.{LoadAnswer}
use Rattle.domain_load.specs.declared.LoadAnswer.TheVariants as Is
use Rattle.check_calls.specs.declared.Answer.{Answer}

-- ---- "a call takes the check and hands back the check after it"

-- a checker: its calls, and what can be seen of a check (C)
pub record Calls (C : Type 0) : Type 0 where
  -- domain and problem
  pub load : List ℕ → List ℕ → C × LoadAnswer
  -- the line of a refused load, "written from its answer, without a check", to a lent output
  pub line : LoadAnswer → List ℕ → Answer × List ℕ
  pub feed : C → List ℕ → C × Answer
  pub finish : C → C × Answer
  -- these three with a lent output
  pub result : C → List ℕ → (C × Answer) × List ℕ
  pub facts : C → List ℕ → (C × Answer) × List ℕ
  pub numbers : C → List ℤ → (C × Answer) × List ℤ
  -- "a test of the check's numbers"
  pub formed : C → Bool
  -- "one fixed check" of a refused load
  pub fixed : C
  pub finished : C → Bool
  -- the plan refusal that stands, if one does
  pub standing : C → Option Refused
  -- how many facts and how many numbers there are
  pub sizes : C → ℕ × ℕ

-- a call on a check, and what is lent to it
pub data Call : Type 0 where
  feed : List ℕ → Call
  finish : Call
  result : List ℕ → Call
  facts : List ℕ → Call
  numbers : List ℤ → Call

-- an output that is lent
pub data Lent : Type 0 where
  nothing : Lent
  bytes : List ℕ → Lent
  amounts : List ℤ → Lent

abbrev pub lent : Call → Lent
lent (feed part) = nothing
lent finish = nothing
lent (result out) = bytes out
lent (facts out) = bytes out
lent (numbers out) = amounts out

-- what a call gives: the check after it, its answer, and the lent output after it
pub record Made (C : Type 0) : Type 0 where
  pub check : C
  pub answer : Answer
  pub output : Lent

module _ {C : Type 0} (K : Calls C) where
  abbrev pub make : C → Call → Made C
  make c (feed part) = record { check = (K.feed c part).0; answer = (K.feed c part).1; output = nothing }
  make c finish = record { check = (K.finish c).0; answer = (K.finish c).1; output = nothing }
  make c (result out) = record { check = (K.result c out).0.0; answer = (K.result c out).0.1; output = bytes (K.result c out).1 }
  make c (facts out) = record { check = (K.facts c out).0.0; answer = (K.facts c out).0.1; output = bytes (K.facts c out).1 }
  make c (numbers out) = record { check = (K.numbers c out).0.0; answer = (K.numbers c out).0.1; output = amounts (K.numbers c out).1 }

  -- the check after calls one after the other
  abbrev pub after : C → List Call → C
  after c [] = c
  after c (x ∷ xs) = after (make c x).check xs

  -- the check after a plan's parts, and what each feed answered
  abbrev pub feeds : C → List (List ℕ) → C
  feeds c [] = c
  feeds c (p ∷ ps) = feeds (K.feed c p).0 ps

  abbrev pub replies : C → List (List ℕ) → List Answer
  replies c [] = []
  replies c (p ∷ ps) = (K.feed c p).1 ∷ replies (K.feed c p).0 ps

  -- a whole session: load, all parts, finish
  abbrev pub session : List ℕ → List ℕ → List (List ℕ) → C × Answer
  session domain problem parts = K.finish (feeds (K.load domain problem).0 parts)

  -- the line of a session and what asking for it answered: of a refused load from its answer, else from the check after finish
  abbrev pub line_of : LoadAnswer → C → List ℕ → Answer × List ℕ
  line_of Is.Loaded c out = ((K.result c out).0.1, (K.result c out).1)
  line_of (Is.Domain k p) c out = K.line (Is.Domain k p) out
  line_of (Is.Problem k p) c out = K.line (Is.Problem k p) out

  abbrev pub line : List ℕ → List ℕ → List (List ℕ) → List ℕ → Answer × List ℕ
  line domain problem parts out = line_of (K.load domain problem).1 (session domain problem parts).0 out
