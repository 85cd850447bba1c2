use mathlib.Core.Path.{◌∙◌}
use Rattle.domain_indexes.proofs.Sums.{first_all}
use Rattle.domain_indexes.proofs.sum_of.Goals as goal

pub returns : goal.returns
returns c = λ m to t h g. c.first_of.ensures.0 m to t h g ∙ rw h.count (first_all _ t)
