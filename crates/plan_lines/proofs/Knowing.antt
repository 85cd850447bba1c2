-- What the model's numbers say of a plan's names, as tables and actions. Assumes nothing.
use mathlib.Core.Path.{◌≡◌, refl}
use mathlib.Core.List.{List}
use Prim.Native.Nat.{ℕ}
use Rattle.domain_prepared_meaning.specs.Decode.{actions_at}
use Rattle.domain_stored_meaning.specs.Entries.{signed_in}
use Rattle.domain_terms.specs.declared.scope.Counts.{Counts}
use Rattle.plan_lines.specs.Knowing.{types_in, objects_in, known_in}

pub known_in_lem : (tables : List ℕ) (c : Counts) (heads : List ℕ) (acting : ℕ) (rows : List ℕ)
    → known_in tables c heads acting rows ≡ record {
      types = types_in tables c;
      objects = objects_in tables c;
      actions = actions_at rows 0 (signed_in heads acting);
    }
unfolding known_in
known_in_lem tables c heads acting rows = refl
