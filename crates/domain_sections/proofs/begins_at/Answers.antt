use borrow.Enum.Refused.{opened}
use mathlib.Core.Path.{refl, sym, ◌∙◌}
use Rattle.domain_sections.proofs.Frames.{begins_else, begins_none, begins_other, begins_here}
use Rattle.text_tokens.proofs.Words.{word_is}
use Rattle.domain_sections.proofs.begins_at.Goals as goal

pub returns-in_default : goal.returns-in_default
returns-in_default c = begins_else _ _ _ _ c.token_at-t.ensures (opened c.in_default.in_default-own.keys2)

pub returns-in_default-u : goal.returns-in_default-u
returns-in_default-u c = begins_none _ _ _ c.requires _ _ (sym c.token_at-t.ensures ∙ c.in-Open.is) _ c.token_at-u.ensures (opened c.in_default-u.in_default-u-own.keys2)

pub returns-then-same_word : goal.returns-then-same_word
returns-then-same_word c = begins_here _ _ _ c.requires _ _ (sym c.token_at-t.ensures ∙ c.in-Open.is) _ _ _ (sym c.token_at-u.ensures ∙ c.in-Word.is) (rw (c.word_of.ensures ∙ word_is _ _ _ _ _ refl) at (sym c.same_word.ensures ∙ c.if-same_word.true))

pub returns : goal.returns
returns c = begins_other _ _ _ c.requires _ _ (sym c.token_at-t.ensures ∙ c.in-Open.is) _ _ _ (sym c.token_at-u.ensures ∙ c.in-Word.is) (rw (c.word_of.ensures ∙ word_is _ _ _ _ _ refl) at (sym c.same_word.ensures ∙ c.if-same_word.false))
