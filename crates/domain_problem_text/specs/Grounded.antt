-- What a problem's tables hold once its objects are read.
use Rattle.std.specs.Prelude.{◌≡◌, List, ℕ, length}
use Rattle.domain_meaning.specs.Read.{Read, got, refused}
use Rattle.domain_meaning.specs.Tables.{Table}
use Rattle.domain_meaning.specs.Domain.{Domain}
use Rattle.domain_meaning.specs.Problem.{scope_of}
use Rattle.domain_due.specs.Answers.{Parsed}
use Rattle.domain_due.specs.Answers.{Done, Refused}
use Rattle.domain_terms.specs.Scoped.{Scoped}
use Rattle.domain_terms.specs.declared.scope.Counts.{Counts}
use Rattle.domain_rows.specs.Layout.{tables_length}

-- the counts with n objects
abbrev pub with_objects : Counts → ℕ → Counts
with_objects c n =
    record {
      types = c.types;
      objects = n;
      predicates = c.predicates;
      functions = c.functions;
      variables = c.variables;
      in_action = c.in_action;
    }

-- the objects were read: the answer has their number, and the tables hold them beside what the domain declares
unfoldable pub Grounded : Counts → Parsed → List ℕ → Domain → Read Table → Type 0
Grounded c r tables d (got os n) = (r ≡ Done n (length os)) × Scoped tables (with_objects c (length os)) (scope_of d os) × (length tables ≡ tables_length)
Grounded c r tables d (refused k p) = r ≡ Refused k p
