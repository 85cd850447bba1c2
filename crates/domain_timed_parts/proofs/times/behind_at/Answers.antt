use Rattle.std.specs.Prelude.{Err}
use borrow.Enum.Refused.{opened}
use mathlib.Core.Path.{ap, refl, sym, ◌∙◌}
use native.Mathlib.Omega.{arith}
use Rattle.domain_due.proofs.Dues.{ahead_refused, ahead_by, word_in}
use Rattle.text_words.specs.Bytes.{bytes}
use Rattle.domain_timed_parts.proofs.Timing.{behind_else, behind_start, behind_end, behind_other}
use Rattle.text_tokens.proofs.Words.{word_is}
use Rattle.domain_timed_parts.proofs.times.behind_at.Goals as goal

pub returns-in_default : goal.returns-in_default
returns-in_default c = (behind_else _ _ _ _ _ c.token_at-t.ensures (opened c.in_default.in_default-own.keys2) (ap Err c.not_due.ensures), ahead_refused _ _ _ _ _ (ap Err c.not_due.ensures))

pub returns-then-same_word : goal.returns-then-same_word
unfolding bytes
returns-then-same_word c = let w = word_in _ _ c.requires _ _ _ (sym c.token_at-t.ensures ∙ c.in-Word.is) in (behind_start _ _ _ _ _ _ (sym c.token_at-t.ensures ∙ c.in-Word.is) (rw (c.word_of.ensures ∙ word_is _ _ _ _ _ refl) at (sym c.same_word.ensures ∙ c.if-same_word.true)), ahead_by _ _ _ _ (omega arith) w.2)

pub returns-then-same_word-2 : goal.returns-then-same_word-2
unfolding bytes
returns-then-same_word-2 c = let w = word_in _ _ c.requires _ _ _ (sym c.token_at-t.ensures ∙ c.in-Word.is) in (behind_end _ _ _ _ _ _ (sym c.token_at-t.ensures ∙ c.in-Word.is) (rw (c.word_of.ensures ∙ word_is _ _ _ _ _ refl) at (sym c.same_word.ensures ∙ c.if-same_word.false)) (rw (c.word_of-2.ensures ∙ word_is _ _ _ _ _ refl) at (sym c.same_word-2.ensures ∙ c.if-same_word-2.true)), ahead_by _ _ _ _ (omega arith) w.2)

pub returns : goal.returns
unfolding bytes
returns c = (behind_other _ _ _ _ _ _ (sym c.token_at-t.ensures ∙ c.in-Word.is) (rw (c.word_of.ensures ∙ word_is _ _ _ _ _ refl) at (sym c.same_word.ensures ∙ c.if-same_word.false)) (rw (c.word_of-2.ensures ∙ word_is _ _ _ _ _ refl) at (sym c.same_word-2.ensures ∙ c.if-same_word-2.false)), ahead_refused _ _ 3 _ _ refl)
