use mathlib.Core.Path.{◌∙◌}
use Rattle.domain_holding.proofs.Storing.{name_of_two}
use Rattle.domain_holding.proofs.is_name_byte.Goals as goal

pub returns : goal.returns
returns c = c.is_name.ensures ∙ name_of_two _
