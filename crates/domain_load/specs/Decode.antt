-- The model read back: what its numbers say of a domain and a problem, its actions and its goal prepared. Any numbers give some reading.
use Rattle.std.specs.Prelude.{ℕ, List, map, length}
use Rattle.text_tokens.specs.Runs.{part}
use Rattle.domain_meaning.specs.Tables.{Table}
use Rattle.domain_meaning.specs.Conditions.{Cond}
use Rattle.domain_meaning.specs.Actions.{Action}
use Rattle.domain_meaning.specs.Domain.{Domain}
use Rattle.domain_meaning.specs.Problem.{Problem}
use Rattle.domain_stored_meaning.specs.Entries.{typed_in, signed_in}
use Rattle.domain_prepared_meaning.specs.Preparing.{action_of, goal_of}
use Rattle.domain_prepared_meaning.specs.Decode.{actions_at, goal_at}
use Rattle.domain_load.specs.declared.Model.{Model}
use Rattle.domain_load.specs.Load.{predicate_firsts, function_firsts}
use Rattle.domain_rows.specs.Layout.{objects_at, predicates_at, functions_at, variables_at}

pub record Reading : Type 0 where
  pub types : Table
  pub objects : Table
  pub predicates : Table
  pub functions : Table
  pub actions : List Action
  pub goal : Cond

unfoldable pub decode : Model → Reading
decode m =
    record {
      types = typed_in (part m.tables 0 objects_at) m.counts.types;
      objects = typed_in (part m.tables objects_at predicates_at) m.counts.objects;
      predicates = signed_in (part m.tables predicates_at functions_at) m.counts.predicates;
      functions = signed_in (part m.tables functions_at variables_at) m.counts.functions;
      actions = actions_at m.rows 0 (signed_in m.actions m.acting);
      goal = goal_at m.goal;
    }

-- what the trees themselves say, prepared with the first indexes of their predicates and functions
abbrev pub reading_by : ℕ → List ℕ → List ℕ → Domain → Problem → Reading
reading_by n ps fs d p =
    record {
      types = d.types;
      objects = p.objects;
      predicates = d.predicates;
      functions = d.functions;
      actions = map (action_of n ps fs) d.actions;
      goal = goal_of n ps fs p.goal;
    }

abbrev pub reading_of : Domain → Problem → Reading
reading_of d p =
    reading_by (length p.objects) (predicate_firsts (length p.objects) d.predicates)
    (function_firsts (length p.objects) d.functions) d p
