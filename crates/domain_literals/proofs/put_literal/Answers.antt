use mathlib.Core.Path.{◌∙◌}
use native.Mathlib.Numerals.{add-one}
use Rattle.domain_literals.proofs.put_literal.Goals as goal

pub returns : goal.returns
returns c = (c.put_bytes.ensures ∙ rw (c.put.ensures, c.size_of-k.ensures.0, add-one _), rw c.size_of-k.ensures.0)
