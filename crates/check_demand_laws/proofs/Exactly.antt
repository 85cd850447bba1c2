-- Demand 2 for a whole session: what comes of two texts that are read and a plan in any parts is `valid` exactly where no line is refused and the plan is
-- valid, and a failure exactly where it is the first. Assumes nothing.
use mathlib.Core.List.{List}
use mathlib.Core.Logic.{◌↔◌}
use mathlib.Core.Option.{none}
use mathlib.Core.Path.{◌≡◌, sym, ◌∙◌}
use Prim.Native.Nat.{ℕ}
use Rattle.domain_meaning.specs.Read.{got}
use Rattle.domain_meaning.specs.Domain.{Domain, read_domain}
use Rattle.domain_meaning.specs.Problem.{Problem, read_problem}
use Rattle.happening_meaning.specs.State.{State}
use Rattle.happening_meaning.specs.Happening.{promises}
use Rattle.happening_meaning.specs.declared.Outcome.{Outcome}
use Rattle.plan_meaning.specs.Plan.{Step, going, failed, ended, steps}
use Rattle.plan_meaning.specs.Feed.{joined}
use Rattle.plan_meaning.specs.Promised.{Act}
use Rattle.plan_meaning.proofs.Rising.{whole}
use Rattle.check_meaning.specs.Answer.{grounds_of, first_state, known_for}
use Rattle.check_validity_meaning.specs.Valid.{Valid, FailsFirst}
use Rattle.check_validity_meaning.proofs.Answers.{said, refusal_in, answers_valid, answers_first}
use Rattle.check_calls.specs.Calls as C
use Rattle.check_demand_laws.proofs.Sessions.{session_of}
use Rattle.check_demand_laws.proofs.Loaded as L
use Rattle.check_demand_laws.proofs.Whole.{means, ended_session}

module _ (s t : List ℕ) (d : Domain) (p : Problem) (m n : ℕ) (e : read_domain s ≡ got d m) (f : read_problem t d ≡ got p n) (ps : List (List ℕ)) where
  -- the steps of the plan, read from its text
  abbrev pub plan : List (Step Act)
  plan = steps (said (grounds_of d p) p.goal d.actions (first_state p) (known_for d p) (joined ps))

  -- no line is refused
  abbrev pub Taken : Type 0
  Taken = refusal_in (grounds_of d p) p.goal d.actions (first_state p) (known_for d p) (joined ps) ≡ none

  pub exactly_valid : (x : State) (u : ℕ) → (means s t d p m n e f ps ≡ ended (going x u)) ↔
      (Taken × Valid (grounds_of d p) d.actions plan p.goal (first_state p) x u)
  exactly_valid x u =
      let w = whole (promises (grounds_of d p) p.goal) d.actions (first_state p) (known_for d p) ps in
      let a = answers_valid (grounds_of d p) p.goal d.actions (first_state p) (known_for d p) ps x u in
      ((λ q. a.0 (w ∙ q)), λ h. sym w ∙ a.1 h)

  pub exactly_first : (x : State) (u : ℕ) (o : Outcome)
      → (means s t d p m n e f ps ≡ ended (failed x u o)) ↔ (Taken × FailsFirst (grounds_of d p) d.actions plan p.goal (first_state p) x u o)
  exactly_first x u o =
      let w = whole (promises (grounds_of d p) p.goal) d.actions (first_state p) (known_for d p) ps in
      let a = answers_first (grounds_of d p) p.goal d.actions (first_state p) (known_for d p) ps x u o in
      ((λ q. a.0 (w ∙ q)), λ h. sym w ∙ a.1 h)

  -- and that is what the check holds after finish
  pub held : session_of s t ps ≡ C.ended (L.loaded s t d p m n e f) (means s t d p m n e f ps)
  held = ended_session s t d p m n e f ps
