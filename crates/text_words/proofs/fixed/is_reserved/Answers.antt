use mathlib.Core.Path.{ap, ◌∙◌}
use Rattle.std.specs.Prelude.{is_some}
use Rattle.text_words.specs.Bytes.{bytes}
use Rattle.text_words.specs.Fixed.{is_reserved}
use Rattle.text_words.proofs.fixed.is_reserved.Goals as goal

pub returns : goal.returns
unfolding is_reserved bytes
returns c = c.is_some.ensures ∙ ap is_some c.word_in.ensures
