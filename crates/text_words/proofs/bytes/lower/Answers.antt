use mathlib.Core.Path.{◌∙◌}
use Rattle.text_words.proofs.Named.{ascii_lower}
use Rattle.text_words.proofs.bytes.lower.Goals as goal

pub returns : goal.returns
returns c = c.to_ascii_lowercase.ensures.value ∙ ascii_lower _
