use borrow.Enum.Refused.{opened}
use mathlib.Core.Path.{refl, sym, ◌∙◌}
use native.Mathlib.Omega.{arith}
use Rattle.domain_due.proofs.Dues.{word_in}
use Rattle.domain_timed_parts.proofs.Timing.{field_else, field_read, field_other, farther_by, farther_not}
use Rattle.text_tokens.proofs.Words.{word_is}
use Rattle.domain_timed_parts.proofs.fields.field_at.Goals as goal

pub returns-in_default : goal.returns-in_default
returns-in_default c = (field_else _ _ _ _ c.token_at-t.ensures (opened c.in_default.in_default-own.keys2), farther_not _ _)

pub returns-then-same_word : goal.returns-then-same_word
returns-then-same_word c = let w = word_in _ _ c.requires _ _ _ (sym c.token_at-t.ensures ∙ c.in-Word.is) in (field_read _ _ _ _ _ _ (sym c.token_at-t.ensures ∙ c.in-Word.is) (rw (c.word_of.ensures ∙ word_is _ _ _ _ _ refl) at (sym c.same_word.ensures ∙ c.if-same_word.true)), farther_by _ _ _ (omega arith) w.2)

pub returns : goal.returns
returns c = (field_other _ _ _ _ _ _ (sym c.token_at-t.ensures ∙ c.in-Word.is) (rw (c.word_of.ensures ∙ word_is _ _ _ _ _ refl) at (sym c.same_word.ensures ∙ c.if-same_word.false)), farther_not _ _)
