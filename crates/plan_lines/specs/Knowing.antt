-- What the model's numbers say of a plan's names: any numbers say something.
use Rattle.std.specs.Prelude.{ℕ, ◌≤◌, List, Bool, true, false, length}
use Rattle.text_tokens.specs.Runs.{part}
use Rattle.domain_meaning.specs.Tables.{Table}
use Rattle.domain_meaning.specs.Actions.{Lasting, moment, rule}
use Rattle.domain_prepared_meaning.specs.Decode.{actions_at}
use Rattle.domain_stored_meaning.specs.Entries.{typed_in, signed_in}
use Rattle.domain_terms.specs.declared.scope.Counts.{Counts}
use Rattle.plan_meaning.specs.Lines.{Known}
use Rattle.domain_rows.specs.Layout.{objects_at, predicates_at, tables_length}

abbrev pub types_in : List ℕ → Counts → Table
types_in tables c = typed_in (part tables 0 objects_at) c.types

abbrev pub objects_in : List ℕ → Counts → Table
objects_in tables c = typed_in (part tables objects_at predicates_at) c.objects

unfoldable pub known_in : List ℕ → Counts → List ℕ → ℕ → List ℕ → Known
known_in tables c heads acting rows =
    record {
      types = types_in tables c;
      objects = objects_in tables c;
      actions = actions_at rows 0 (signed_in heads acting);
    }

-- the tables have room for as many names as the counts say
abbrev pub Tabled : List ℕ → Counts → Type 0
Tabled tables c = (tables_length ≤ length tables) × (c.types ≤ 17) × (c.objects ≤ 64)

abbrev pub Headed : List ℕ → ℕ → Type 0
Headed heads acting = (1216 ≤ length heads) × (acting ≤ 32)

-- a durative action has a duration rule
abbrev pub lasts_of : Lasting → Bool
lasts_of moment = false
lasts_of (rule e) = true
