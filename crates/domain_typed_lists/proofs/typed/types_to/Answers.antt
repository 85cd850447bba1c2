use mathlib.Core.Path.{refl}
use mathlib.Core.List.{[], ◌∷◌}
use native.Mathlib.Omega.{arith}
use Rattle.text_words.specs.Bytes.{bytes}
use Rattle.domain_meaning.specs.Tables.{entry}
use Rattle.domain_meaning.specs.Lists.{types_to}
use Rattle.domain_rows.specs.Held.{rows_of}
use Rattle.domain_meaning.specs.Indexes.{padded}
use Rattle.domain_typed_lists.proofs.Outcomes.{holds_none}
use Rattle.domain_typed_lists.proofs.typed.types_to.Goals as goal

pub typed_list-requires : goal.typed_list-requires
unfolding rows_of padded bytes
typed_list-requires c = (c.requires.0, ([], (holds_none 17 _ refl)), ((entry (bytes "object") (0 ∷ []) ∷ []), c.enter.ensures [] (holds_none 17 c.args.rows.now c.requires.1)), omega arith)

pub returns : goal.returns
unfolding rows_of padded bytes types_to
returns c = (c.typed_list.ensures.0 [] (entry (bytes "object") (0 ∷ []) ∷ []) _ (holds_none 17 _ refl) (c.enter.ensures [] (holds_none 17 c.args.rows.now c.requires.1)) (omega arith), c.typed_list.ensures.1)
