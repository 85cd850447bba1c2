-- What a plan's text says to a domain and a problem that are read: its steps, the refusal of the whole, and the refusal that its bytes so far decide.
use Rattle.std.specs.Prelude.{ℕ, List, [], ◌∷◌, ◌++◌, ◌≡◌}
use Rattle.std.proofs.Math.Option.{Option, none}
use Rattle.domain_meaning.specs.Read.{got}
use Rattle.domain_meaning.specs.Domain.{Domain, read_domain}
use Rattle.domain_meaning.specs.Problem.{Problem, read_problem}
use Rattle.happening_meaning.specs.State.{State}
use Rattle.happening_meaning.specs.declared.Outcome.{Outcome}
use Rattle.plan_meaning.specs.Plan.{Step, Answer, steps, first_refusal}
use Rattle.plan_meaning.specs.Text.{lines, answers, judged}
use Rattle.plan_meaning.specs.Promised.{Act}
use Rattle.plan_meaning.specs.Lines.{Refused, reader, limits}
use Rattle.check_meaning.specs.Answer.{grounds_of, first_state, known_for}
use Rattle.check_demand_laws.specs.Ruling.{reply}
use Rattle.check_validity_meaning.specs.Valid as Plans
use Rattle.check_calls.specs.declared.Answer as Replies

-- neither text is refused
pub record Reads (domain problem : List ℕ) (d : Domain) (p : Problem) : Type 0 where
  pub domain_end : ℕ
  pub domain_read : read_domain domain ≡ got d domain_end
  pub problem_end : ℕ
  pub problem_read : read_problem problem d ≡ got p problem_end

module _ (d : Domain) (p : Problem) where
  abbrev pub said : List (List ℕ) → List (Answer Act Refused)
  said ls = answers (reader (known_for d p)) 1 0 ls

  -- the first refusal of a plan, "outranks every verdict"
  abbrev pub refusal_of : List ℕ → Option Refused
  refusal_of plan = first_refusal limits [] (said (lines plan))

  -- the same as far as the bytes that came decide it: "A line is judged when its LF, its byte at column 257 or the finish is met"
  abbrev pub refusal_so_far : List ℕ → Option Refused
  refusal_so_far begun = first_refusal limits [] (said (judged (reader (known_for d p)) 1 (lines begun)))

  -- what feeding these parts answers, one after the other, where the bytes `before` have come already
  abbrev pub replies_to : List ℕ → List (List ℕ) → List Replies.Answer
  replies_to before [] = []
  replies_to before (part ∷ ps) = reply (refusal_so_far (before ++ part)) ∷ replies_to (before ++ part) ps

  abbrev pub steps_of : List ℕ → List (Step Act)
  steps_of plan = steps (said (lines plan))

  -- no line is refused, and the plan is valid: e is its last state, u the time of its last happening
  abbrev pub Valid : List ℕ → State → ℕ → Type 0
  Valid plan e u = (refusal_of plan ≡ none) × Plans.Valid (grounds_of d p) d.actions (steps_of plan) p.goal (first_state p) e u

  -- no line is refused, and w is the first failure, at time u; e is the state to hand back
  abbrev pub FailsFirst : List ℕ → State → ℕ → Outcome → Type 0
  FailsFirst plan e u w = (refusal_of plan ≡ none) × Plans.FailsFirst (grounds_of d p) d.actions (steps_of plan) p.goal (first_state p) e u w
