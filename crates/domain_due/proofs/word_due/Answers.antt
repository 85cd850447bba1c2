use borrow.Enum.Refused.{opened}
use mathlib.Core.Path.{refl, sym, ap, ◌∙◌}
use Rattle.std.specs.Prelude.{Err}
use Rattle.domain_due.proofs.Dues.{word_else, word_read, word_other}
use Rattle.text_tokens.proofs.Words.{word_is}
use Rattle.domain_due.proofs.word_due.Goals as goal

pub returns-in_default : goal.returns-in_default
returns-in_default c = word_else _ _ _ _ _ _ c.token_at-t.ensures (opened c.in_default.in_default-own.keys2) (ap Err c.not_due.ensures)

pub returns-then-same_word : goal.returns-then-same_word
returns-then-same_word c = word_read _ _ _ _ _ _ _ c.requires (sym c.token_at-t.ensures ∙ c.in-Word.is) (rw (c.word_of.ensures ∙ word_is _ _ _ _ _ refl) at (sym c.same_word.ensures ∙ c.if-same_word.true))

pub returns : goal.returns
returns c = word_other _ _ _ _ _ _ _ (sym c.token_at-t.ensures ∙ c.in-Word.is) (rw (c.word_of.ensures ∙ word_is _ _ _ _ _ refl) at (sym c.same_word.ensures ∙ c.if-same_word.false))
