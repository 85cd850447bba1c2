-- What a model's numbers say, part by part. Assumes nothing.
use mathlib.Core.Path.{◌≡◌, refl}
use Rattle.text_tokens.specs.Runs.{part}
use Rattle.domain_stored_meaning.specs.Entries.{typed_in, signed_in}
use Rattle.domain_prepared_meaning.specs.Decode.{actions_at, goal_at}
use Rattle.domain_load.specs.Decode.{decode}
use Rattle.domain_load.specs.declared.Model.{Model}
use Rattle.domain_rows.specs.Layout.{objects_at, predicates_at}

module _ (m : Model) where
  pub types_in_lem : typed_in (part m.tables 0 objects_at) m.counts.types ≡ (decode m).types
  unfolding decode
  types_in_lem = refl

  pub objects_in_lem : typed_in (part m.tables objects_at predicates_at) m.counts.objects ≡ (decode m).objects
  unfolding decode
  objects_in_lem = refl

  pub actions_in : actions_at m.rows 0 (signed_in m.actions m.acting) ≡ (decode m).actions
  unfolding decode
  actions_in = refl

  pub goal_in : goal_at m.goal ≡ (decode m).goal
  unfolding decode
  goal_in = refl
