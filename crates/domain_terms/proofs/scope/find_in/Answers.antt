use mathlib.Core.Path.{◌∙◌}
use Rattle.domain_rows.proofs.Rows.{lookup_held}
use Rattle.domain_terms.proofs.scope.find_in.Goals as goal

pub returns : goal.returns
returns c = λ m t h. c.find.ensures ∙ rw c.part_of.ensures (lookup_held m _ _ t _ h)
