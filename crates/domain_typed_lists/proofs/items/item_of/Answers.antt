use mathlib.Core.Path.{sym, ◌∙◌}
use Rattle.text_words.specs.Bytes.{bytes}
use Rattle.domain_typed_lists.proofs.items.item_of.Goals as goal

pub returns-then-same_word : goal.returns-then-same_word
unfolding bytes
returns-then-same_word c s q = rw (c.in-Operator.is, (rw q at (sym c.same_word.ensures ∙ c.if-same_word.true)))

pub returns-else-same_word : goal.returns-else-same_word
unfolding bytes
returns-else-same_word c s q = rw (c.in-Operator.is, (rw q at (sym c.same_word.ensures ∙ c.if-same_word.false)))
