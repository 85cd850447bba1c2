use Rattle.std.specs.Prelude.{Err}
use borrow.Enum.Refused.{opened}
use mathlib.Core.Path.{ap, refl, sym, ◌∙◌}
use Rattle.text_words.specs.Bytes.{bytes}
use Rattle.domain_durations.proofs.Heads.{head_long, head_refused, head_else, head_equals, head_other}
use Rattle.text_tokens.proofs.Words.{word_is}
use Rattle.domain_durations.proofs.rule_head.Goals as goal

pub returns-then-k-eq5 : goal.returns-then-k-eq5
returns-then-k-eq5 c = head_long _ _ _ _ c.in-Refusal.is c.if-k-eq5.true

pub returns-in-Refusal : goal.returns-in-Refusal
returns-in-Refusal c = head_refused _ _ _ _ c.in-Refusal.is c.if-k-eq5.false

pub returns-in_default-t : goal.returns-in_default-t
returns-in_default-t c = head_else c.args.text.now c.args.t (Err c.not_due.result) (opened c.in_default.in_default-own.keys2) (opened c.in_default-t.in_default-t-own.keys2) (ap Err c.not_due.ensures)

pub returns-then-same_word : goal.returns-then-same_word
unfolding bytes
returns-then-same_word c = head_equals _ _ _ _ _ c.in-Word.is (rw (c.word_of.ensures ∙ word_is _ _ _ _ _ refl) at (sym c.same_word.ensures ∙ c.if-same_word.true))

pub returns : goal.returns
unfolding bytes
returns c = head_other _ _ _ _ _ c.in-Word.is (rw (c.word_of.ensures ∙ word_is _ _ _ _ _ refl) at (sym c.same_word.ensures ∙ c.if-same_word.false))
