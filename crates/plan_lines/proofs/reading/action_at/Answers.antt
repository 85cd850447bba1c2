use Rattle.std.specs.Prelude.{Err}
use borrow.Enum.Refused.{opened}
use mathlib.Core.Path.{refl, sym, ap, ◌∙◌}
use Rattle.domain_due.specs.Answers.{answer_of}
use Rattle.domain_stored_meaning.specs.Entries.{signed_in}
use Rattle.plan_lines.proofs.Marks.{named_at, named_else, named_missing, named_found}
use Rattle.text_tokens.proofs.Words.{word_is}
use Rattle.plan_lines.proofs.reading.action_at.Goals as goal

pub returns-in_default : goal.returns-in_default
returns-in_default c = named_else _ (signed_in _ _) _ _ (opened c.in_default.in_default-own.keys2) (ap Err c.not_due.ensures) ∙ ap answer_of (named_at _ (signed_in _ _) _ _ c.plan_token_at-t.ensures)

pub returns-in_default-action_of : goal.returns-in_default-action_of
returns-in_default-action_of c = named_missing _ (signed_in _ _) _ _ _ _ c.in-Word.is (rw (c.word_of.ensures ∙ word_is _ _ _ _ _ refl) at (sym c.action_of.ensures ∙ c.in_default-action_of.is)) ∙ ap answer_of (named_at _ (signed_in _ _) _ _ c.plan_token_at-t.ensures)

pub returns : goal.returns
returns c = named_found _ (signed_in _ _) _ _ _ _ _ c.in-Word.is (rw (c.word_of.ensures ∙ word_is _ _ _ _ _ refl) at (sym c.action_of.ensures ∙ c.in-Some.is)) ∙ ap answer_of (named_at _ (signed_in _ _) _ _ c.plan_token_at-t.ensures)
