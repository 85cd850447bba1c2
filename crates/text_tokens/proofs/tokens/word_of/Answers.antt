use borrow.Enum.Refused.{opened}
use mathlib.Core.Path.{sym, ◌∙◌}
use Rattle.text_tokens.proofs.Words.{word_is, word_none}
use Rattle.text_tokens.proofs.tokens.word_of.Goals as goal

pub returns-in_default : goal.returns-in_default
returns-in_default c = sym (word_none _ _ (opened c.in_default.in_default-own.keys2))

pub returns : goal.returns
returns c = c.part_of.ensures ∙ sym (word_is _ _ _ _ _ c.in-Word.is)
