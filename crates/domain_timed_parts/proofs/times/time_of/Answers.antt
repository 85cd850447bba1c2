use mathlib.Core.Path.{refl, sym, ◌∙◌}
use Rattle.domain_due.proofs.Dues.{ahead_refused}
use Rattle.text_words.specs.Bytes.{bytes}
use Rattle.domain_timed_parts.proofs.Timing.{time_at, time_over, time_neither, time_effect}
use Rattle.domain_timed_parts.proofs.times.time_of.Goals as goal

pub returns-then-same_word : goal.returns-then-same_word
unfolding bytes
returns-then-same_word c = (time_at _ _ _ _ _ _ (rw c.part_of.ensures at (sym c.same_word.ensures ∙ c.if-same_word.true)) c.behind_at.ensures.0, c.behind_at.ensures.1)

pub returns-then-same_word-2 : goal.returns-then-same_word-2
unfolding bytes
returns-then-same_word-2 c = (time_over _ _ _ _ _ (rw c.part_of.ensures at (sym c.same_word.ensures ∙ c.if-same_word.false)) _ c.if-over.true (rw c.part_of-then-over.ensures at (sym c.same_word-then-over.ensures ∙ c.if-same_word-2.true)) c.behind_over.ensures.0, c.behind_over.ensures.1)

pub returns-else-same_word-2 : goal.returns-else-same_word-2
unfolding bytes
returns-else-same_word-2 c = (time_neither _ _ _ _ _ (rw c.part_of.ensures at (sym c.same_word.ensures ∙ c.if-same_word.false)) c.if-over.true (rw c.part_of-then-over.ensures at (sym c.same_word-then-over.ensures ∙ c.if-same_word-2.false)), ahead_refused _ _ 3 _ _ refl)

pub returns-else-over : goal.returns-else-over
unfolding bytes
returns-else-over c = (time_effect _ _ _ _ _ (rw c.part_of.ensures at (sym c.same_word.ensures ∙ c.if-same_word.false)) c.if-over.false, ahead_refused _ _ 3 _ _ refl)
