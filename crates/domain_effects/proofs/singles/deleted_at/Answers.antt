use Rattle.std.specs.Prelude.{Err}
use borrow.Enum.Refused.{opened}
use mathlib.Core.Path.{refl, sym, ap, ◌∙◌}
use mathlib.Core.Bool.{false}
use native.Mathlib.Omega.{arith}
use Rattle.domain_due.proofs.Dues.{word_in}
use Rattle.domain_stored_meaning.specs.Cells.{effects_cells}
use Rattle.domain_expressions.proofs.Passed.{passed}
use Rattle.domain_expressions.proofs.Ends.{written_refused, spent_refused}
use Rattle.domain_effects.proofs.Facts.{spent_from}
use Rattle.domain_effects.proofs.Deleting.{deleted_else, deleted_other, deleted_list, deleted_fact}
use Rattle.text_tokens.proofs.Words.{word_is}
use Rattle.domain_effects.proofs.singles.deleted_at.Goals as goal

pub returns-in_default : goal.returns-in_default
returns-in_default c = (λ x h. written_refused effects_cells _ _ _ _ _ _ _ (deleted_else _ _ x c.args.left _ _ c.token_at-t.ensures (opened c.in_default.in_default-own.keys2)) (ap Err c.not_due.ensures), spent_refused _ _ _ _ _ _ _ (ap Err c.not_due.ensures))

pub returns-in_default-k : goal.returns-in_default-k
returns-in_default-k c = (λ x h. written_refused effects_cells _ _ _ _ _ 3 _ (deleted_other _ _ x c.args.left _ _ _ _ (sym c.token_at-t.ensures ∙ c.in-Word.is) (opened c.in_default-k.in_default-k-own.keys2)) refl, spent_refused _ _ _ _ _ 3 _ refl)

pub returns-in-And : goal.returns-in-And
returns-in-And c = (λ x h. written_refused effects_cells _ _ _ _ _ 11 _ (deleted_list _ _ x c.args.left _ _ _ _ (sym c.token_at-t.ensures ∙ c.in-Word.is) c.in-Name.is (rw (c.head_of.ensures, (c.word_of.ensures ∙ word_is _ _ _ _ _ refl)) at c.in-And.is)) refl, spent_refused _ _ _ _ _ 11 _ refl)

pub becomes_at-requires : goal.becomes_at-requires
becomes_at-requires c = let w = word_in _ _ c.requires.0 _ _ _ (sym c.token_at-t.ensures ∙ c.in-Word.is) in (w.2, c.requires.1, omega arith, omega (arith, w.0, w.1, w.2, c.requires.2))

pub returns : goal.returns
returns c = let w = word_in _ _ c.requires.0 _ _ _ (sym c.token_at-t.ensures ∙ c.in-Word.is) in (λ x h. rw (deleted_fact _ _ x c.args.left _ _ _ _ (sym c.token_at-t.ensures ∙ c.in-Word.is) c.in-Name.is (rw (c.head_of.ensures, (c.word_of.ensures ∙ word_is _ _ _ _ _ refl)) at (opened c.in_default-head_of.in_default-head_of-own.keys2))) (c.becomes_at.ensures.0 x false h refl), spent_from _ _ _ _ _ _ _ _ (omega (arith, w.0, w.1)) (omega arith) (omega (arith, w.0, w.1)) c.becomes_at.ensures.1)
