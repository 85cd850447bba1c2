use mathlib.Core.Path.{refl, sym, ◌∙◌}
use Rattle.domain_sections.proofs.Frames.{flag_carried, flag_missing}
use Rattle.text_tokens.proofs.Words.{word_is}
use Rattle.domain_sections.proofs.flag_of.Goals as goal

pub returns-then-is_flag : goal.returns-then-is_flag
returns-then-is_flag c = flag_carried _ _ _ _ _ c.in-Word.is c.in-Keyword.is (rw (c.word_of.ensures ∙ word_is _ _ _ _ _ refl) at (sym c.is_flag.ensures ∙ c.if-is_flag.true))

pub returns : goal.returns
returns c = flag_missing _ _ _ _ _ c.in-Word.is c.in-Keyword.is (rw (c.word_of.ensures ∙ word_is _ _ _ _ _ refl) at (sym c.is_flag.ensures ∙ c.if-is_flag.false))
