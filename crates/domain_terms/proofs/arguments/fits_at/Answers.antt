use mathlib.Core.Path.{◌∙◌}
use Rattle.domain_rows.specs.Layout.{objects_at}
use Rattle.domain_terms.proofs.arguments.fits_at.Goals as goal

pub returns : goal.returns
returns c = λ x h. c.is_below.ensures.0 17 objects_at x.types h.types ∙ rw (c.type_of_cell.ensures x h)
