-- What load gives, by what the grammar says is read: the model of both trees and the first state, or the refusal of the first text that has one.
use Rattle.std.specs.Prelude.{◌≡◌, ℕ, List, [], ◌++◌, false, length, replicate, set}
use Rattle.std.proofs.lemmas.List.Edits.{sets}
use Rattle.domain_meaning.specs.Read.{Read, got, refused}
use Rattle.domain_meaning.specs.Tables.{Table}
use Rattle.domain_meaning.specs.Conditions.{Cond}
use Rattle.domain_meaning.specs.Actions.{Action}
use Rattle.domain_meaning.specs.Domain.{Domain, read_domain}
use Rattle.domain_meaning.specs.Problem.{Problem, read_problem, scope_of}
use Rattle.domain_rows.specs.Held.{rows_of}
use Rattle.domain_terms.specs.Scoped.{Scoped}
use Rattle.domain_stored_meaning.specs.Cells.{actions_cells, starts_of}
use Rattle.domain_prepared_meaning.specs.Preparing.{singles}
use Rattle.domain_prepared_meaning.specs.Rows.{tests_bytes, all_places, actions_bytes, lists_at}
use Rattle.domain_meaning.specs.Indexes.{sum_of, bases_of, padded}
use Rattle.domain_problem_text.specs.Grounded.{with_objects}
use Rattle.domain_meaning.specs.First.{no_facts, no_numbers, first_facts, first_numbers}
use Rattle.domain_actions.specs.Acted.{declarations}
use Rattle.domain_domain_text.specs.Knowing.{counts_in}
use Rattle.domain_load.specs.declared.Sizes.{Sizes}
use Rattle.domain_load.specs.declared.Model.{Model}
use Rattle.domain_load.specs.declared.LoadAnswer.{LoadAnswer}
use Rattle.domain_load.specs.declared.LoadAnswer.TheVariants as Is
use Rattle.domain_load.specs.declared.Loaded.{Loaded}
use Rattle.domain_rows.specs.Layout.{tables_length}

-- an array of zeros
abbrev pub zeros : ℕ → List ℕ
zeros n = replicate n 0

-- the rows of all tables, and four rows of zeros where the parameters of an action stand while it is read
unfoldable pub tables_of : Domain → Table → List ℕ
tables_of d os = rows_of 17 d.types ++ (rows_of 64 os ++ (rows_of 32 d.predicates ++ (rows_of 16 d.functions ++ rows_of 4 [])))

-- how many facts and numbers there are with n objects
abbrev pub sizes_of : ℕ → Table → Table → Sizes
sizes_of n ps fs = record { facts = sum_of n ps; numbers = sum_of n fs }

-- ---- what is prepared, with n objects and tables of predicates and of functions

-- the first indexes, with zeros after them
abbrev pub predicate_firsts : ℕ → Table → List ℕ
predicate_firsts n ps = padded 32 (bases_of n ps)

abbrev pub function_firsts : ℕ → Table → List ℕ
function_firsts n fs = padded 16 (bases_of n fs)

-- the actions: the number of objects, where each action's lists begin, the lists
unfoldable pub prepared_actions : ℕ → Table → Table → List Action → List ℕ
prepared_actions n ps fs as' =
    sets (sets (set (zeros 33153) 0 n) 1 (all_places n (predicate_firsts n ps) (function_firsts n fs) lists_at as')) lists_at
    (actions_bytes n (predicate_firsts n ps) (function_firsts n fs) as')

-- the goal: its list
unfoldable pub prepared_goal : ℕ → Table → Table → Cond → List ℕ
prepared_goal n ps fs c = sets (zeros 7233) 0 (tests_bytes n (predicate_firsts n ps) (function_firsts n fs) (singles c))

-- ---- the model of a domain and a problem, and the first state

unfoldable pub model_of : Domain → Problem → Model
model_of d p =
    record {
      tables = tables_of d p.objects;
      actions = rows_of 32 (declarations d.actions);
      rows = prepared_actions (length p.objects) d.predicates d.functions d.actions;
      goal = prepared_goal (length p.objects) d.predicates d.functions p.goal;
      sizes = sizes_of (length p.objects) d.predicates d.functions;
      counts = with_objects (counts_in d) (length p.objects);
      acting = length d.actions;
    }

unfoldable pub loaded_of : Domain → Problem → Loaded
loaded_of d p = record { model = model_of d p; facts = first_facts p.init; numbers = first_numbers p.init; answer = Is.Loaded }

-- the model of a domain that was read and has that name, before its problem is: its tables hold the domain's constants, and beside it stand the cells
-- of its actions and where they begin
pub record Models (d : Domain) (name code starts : List ℕ) (m : Model) : Type 0 where
  pub text : List ℕ
  pub end : ℕ
  pub is : read_domain text ≡ got d end
  pub named : name ≡ d.name
  pub scope : Scoped m.tables m.counts (scope_of d d.constants)
  pub long : length m.tables ≡ tables_length
  pub rows : m.actions ≡ rows_of 32 (declarations d.actions)
  pub places : starts ≡ sets (zeros 96) 0 (starts_of 0 d.actions)
  pub cells : code ≡ sets (zeros 32768) 0 (actions_cells d.actions)
  pub counted : m.counts ≡ counts_in d
  pub acts : m.acting ≡ length d.actions

-- ---- a refused load: "A refused load hands back one fixed check"

unfoldable pub fixed_of : LoadAnswer → Loaded
fixed_of answer =
    record {
      model = record {
        tables = zeros tables_length;
        actions = zeros 1216;
        rows = zeros 33153;
        goal = zeros 7233;
        sizes = record { facts = 0; numbers = 0 };
        counts = record { types = 0; objects = 0; predicates = 0; functions = 0; variables = 0; in_action = false };
        acting = 0;
      };
      facts = no_facts;
      numbers = no_numbers;
      answer = answer;
    }

-- ---- "The domain's refusals come before the problem's"

abbrev pub of_problem : Domain → Read Problem → Loaded
of_problem d (got p n) = loaded_of d p
of_problem d (refused k p) = fixed_of (Is.Problem k p)

abbrev pub of_domain : Read Domain → List ℕ → Loaded
of_domain (got d n) t = of_problem d (read_problem t d)
of_domain (refused k p) t = fixed_of (Is.Domain k p)

unfoldable pub load_of : List ℕ → List ℕ → Loaded
load_of s t = of_domain (read_domain s) t
