-- A failure in an instant, or at the goal, is one that the table lists: it names lines of the points and steps there. Assumes nothing.
use mathlib.Core.Bool.{Bool, true, false}
use mathlib.Core.List.{List}
use mathlib.Core.Path.{◌≡◌, refl, ap, ◌∙◌}
use Prim.Native.Nat.{ℕ}
use borrow.Author.Tests.{le-leb}
use Rattle.domain_meaning.specs.Conditions.{Cond}
use Rattle.happening_meaning.specs.State.{State, Grounds}
use Rattle.happening_meaning.specs.Happening.{Step, Point, line_of, is_done, Promises, promises}
use Rattle.happening_meaning.specs.declared.Outcome.{Outcome}
use Rattle.happening_meaning.specs.declared.Outcome.TheVariants.{Done, Duration, Condition, Undefined, Range, Itself, Conflict, Invariant, Goal}
use Rattle.plan_meaning.proofs.Lists.{All}
use Rattle.plan_meaning.proofs.Listed.{line_parts}
use Rattle.check_meaning.specs.Listed.{listed_line, listed_verdict}
use Rattle.check_validity_meaning.specs.Happens.{Spans}
use Rattle.check_validity_meaning.proofs.Lists.{all_in, first_in_lem}
use Rattle.check_validity_meaning.proofs.Deciding.{Decides, is_done_lem}
use Rattle.check_validity_meaning.proofs.Naming.{Names, fails_names, broken_names, reached_by}
use Rattle.check_validity_meaning.proofs.Steps.{spanning_decides}
use Rattle.check_validity_meaning.proofs.Happening as W

-- a line of a plan
abbrev pub InPlan : ℕ → Type 0
InPlan l = listed_line l ≡ true

-- what the layer of happenings answers is listed, if its points and steps have lines of a plan
pub record Named (P : Promises) : Type 0 where
  pub happen : (s : State) (ps : List Point) → All (λ p. InPlan (line_of p)) ps → listed_verdict (P.happen s ps).outcome ≡ true
  pub over : (s : State) (xs : List Step) → All (λ x. InPlan x.line) xs → listed_verdict (P.over s xs) ≡ true
  pub goal : (s : State) → listed_verdict (P.goal s) ≡ true

named_listed : (w : Outcome) → Names InPlan w → listed_verdict w ≡ true
unfolding listed_verdict
named_listed Done n = refl
named_listed (Duration l) n = n
named_listed (Condition l) n = n
named_listed (Undefined l) n = le-leb l 1000000 (line_parts l n).1
named_listed (Range l) n = le-leb l 1000000 (line_parts l n).1
named_listed (Itself l) n = n
named_listed (Conflict l m) n = rw (n.0, n.1)
named_listed (Invariant l) n = n
named_listed Goal n = refl

pub done_listed : listed_verdict Done ≡ true
unfolding listed_verdict
done_listed = refl

goal_listed : (listed_verdict Goal ≡ true) × (listed_verdict (Undefined 0) ≡ true) × (listed_verdict (Range 0) ≡ true)
unfolding listed_verdict
goal_listed = (refl, refl, refl)

-- an outcome that decides is listed if its failures are
decided_listed : {P : Type 0} {F : Outcome → Type 0} (o : Outcome) → Decides P F o → (F o → listed_verdict o ≡ true) → listed_verdict o ≡ true
decided_listed o d f = go (is_done o) refl
  where
    go : (b : Bool) → is_done o ≡ b → listed_verdict o ≡ true
    go true e = rw (is_done_lem o e) done_listed
    go false e = f (d.wrong e)

module _ (g : Grounds) (goal : Cond) where
  happens_listed : (s : State) (ps : List Point) → All (λ p. InPlan (line_of p)) ps → listed_verdict ((promises g goal).happen s ps).outcome ≡ true
  happens_listed s ps a =
      ap listed_verdict (W.leads g s ps).0
      ∙ decided_listed (W.steps g s ps) (W.happening_decides g s ps) (λ x. named_listed (W.steps g s ps) (fails_names InPlan (W.steps g s ps) g s ps a x))

  spans_listed : (s : State) (xs : List Step) → All (λ x. InPlan x.line) xs → listed_verdict ((promises g goal).over s xs) ≡ true
  spans_listed s xs a =
      let w = (promises g goal).over s xs in
      decided_listed w (spanning_decides g s xs)
      (λ b. named_listed w (first_in_lem (Spans g s) xs (λ x i. broken_names InPlan w g s x (all_in (λ (y : Step). InPlan y.line) xs a x i)) b))

  pub named : Named (promises g goal)
  named =
      record {
        happen = happens_listed;
        over = spans_listed;
        goal = λ s. reached_by (λ w. listed_verdict w ≡ true) g s goal done_listed goal_listed.0 goal_listed.1 goal_listed.2;
      }
