use mathlib.Core.Path.{◌∙◌}
use native.Mathlib.Omega.{arith}
use Rattle.text_words.proofs.Named.{ascii_digit}
use Rattle.text_words.proofs.bytes.is_digit.Goals as goal

pub returns : goal.returns
returns c = c.is_ascii_digit.ensures.value ∙ ascii_digit _ (omega arith)
