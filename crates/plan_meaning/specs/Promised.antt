-- The rules of a plan, by the promises of the layer of happenings.
use Rattle.std.specs.Prelude.{ℕ, List, [], map, cond, get_or}
use Rattle.std.proofs.Math.Option.{Option, some, none}
use Rattle.domain_meaning.specs.Tables.{entry}
use Rattle.domain_meaning.specs.Actions.{start, end, Action}
use Rattle.domain_meaning.specs.Actions as A
use Rattle.happening_meaning.specs.State.{State}
use Rattle.happening_meaning.specs.Happening.{step_of, is_done, Happened, Promises}
use Rattle.happening_meaning.specs.Happening as H
use Rattle.happening_meaning.specs.declared.Outcome as Why
use Rattle.plan_meaning.specs.Plan.{Span, moment, lasting, Step, Point, begins, ends, Outcome, next, stop, Rules}

-- what a step does: the number of its action, its objects (four of them, 0 past the last); and how many bytes its line has
pub record Act : Type 0 where
  pub action : ℕ
  pub objects : List ℕ
  pub width : ℕ

abbrev pub duration_of : Span → ℕ
duration_of moment = 0
duration_of (lasting d) = d

-- past the last action, one that does nothing
abbrev pub none_such : Action
none_such = record { declared = entry [] []; lasting = A.moment; conditions = []; effects = [] }

abbrev pub action_of : List Action → ℕ → Action
action_of as' i = get_or as' i none_such

-- as' are the domain's actions
abbrev pub step_for : List Action → Step Act → H.Step
step_for as' x = step_of x.line (action_of as' x.act.action) x.act.objects (duration_of x.span)

abbrev pub point_for : List Action → Point Act → H.Point
point_for as' (begins x) = record { step = step_for as' x; when = start }
point_for as' (ends x d) = record { step = step_for as' x; when = end }

-- a failure is the reason
abbrev pub failure : Why.Outcome → Option Why.Outcome
failure o = cond (is_done o) none (some o)

abbrev pub outcome_of : Happened → Outcome State Why.Outcome
outcome_of h = cond (is_done h.outcome) (next h.state) (stop h.outcome)

abbrev pub rules_of : Promises → List Action → State → Rules State Act Why.Outcome
rules_of P as' s =
    record {
      begin = s;
      happen = λ u ps. outcome_of (P.happen u (map (point_for as') ps));
      over = λ u xs. failure (P.over u (map (step_for as') xs));
      goal = λ u. failure (P.goal u);
    }
