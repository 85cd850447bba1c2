use borrow.Enum.Refused.{opened}
use Rattle.std.specs.Prelude.{Err}
use mathlib.Core.Logic.{inl, inr}
use mathlib.Core.Path.{refl, sym, ap, ◌∙◌}
use native.Mathlib.Omega.{arith}
use Rattle.domain_terms.proofs.Givens.{cell_refused, name_ahead, variable_ahead, argument_else, argument_word}
use Rattle.domain_due.proofs.Dues.{ahead_refused, word_in}
use Rattle.domain_terms.specs.Cells.{cell_answer}
use Rattle.text_tokens.proofs.Words.{word_is}
use Rattle.domain_terms.proofs.arguments.argument_at.Goals as goal

pub returns-in_default : goal.returns-in_default
returns-in_default c = (λ x h. argument_else _ _ _ x _ _ c.token_at-t.ensures (opened c.in_default.in_default-own.keys2) (ap Err c.not_due.ensures), cell_refused _ _ _ (ap Err c.not_due.ensures), ahead_refused _ _ _ _ _ (ap Err c.not_due.ensures))

pub variable_at-requires : goal.variable_at-requires
variable_at-requires c = (c.requires.1, (word_in _ _ c.requires.0 _ _ _ (sym c.token_at-t.ensures ∙ c.in-Word.is)).1)

pub returns-in-Name : goal.returns-in-Name
returns-in-Name c = let w = word_in _ _ c.requires.0 _ _ _ (sym c.token_at-t.ensures ∙ c.in-Word.is) in (λ x h. c.object_at.ensures.0 c.args.text.now x (c.word_of.ensures ∙ word_is _ _ _ _ _ refl) h ∙ sym (ap cell_answer (argument_word _ _ _ x _ _ _ _ (sym c.token_at-t.ensures ∙ c.in-Word.is) c.in-Name.is)), c.object_at.ensures.1, rw (c.object_at.ensures.0 c.args.text.now c.requires.1.0 (c.word_of.ensures ∙ word_is _ _ _ _ _ refl) c.requires.1.1) (name_ahead _ c.requires.1.0 c.in-Word.p c.in-Word.e _ _ (omega arith) w.2))

pub returns-in-Variable : goal.returns-in-Variable
returns-in-Variable c = let w = word_in _ _ c.requires.0 _ _ _ (sym c.token_at-t.ensures ∙ c.in-Word.is) in (λ x h. c.variable_at.ensures.0 x h ∙ sym (ap cell_answer (argument_word _ _ _ x _ _ _ _ (sym c.token_at-t.ensures ∙ c.in-Word.is) c.in-Variable.is)), c.variable_at.ensures.1, rw (c.variable_at.ensures.0 c.requires.1.0 c.requires.1.1) (variable_ahead _ c.requires.1.0 c.in-Word.p c.in-Word.e _ _ (omega arith) w.2))

pub returns-in-Keyword : goal.returns-in-Keyword
returns-in-Keyword c = (
  λ x h. elim c.in-Keyword.is [
    | inl k ↦ sym (ap cell_answer (argument_word _ _ _ x _ _ _ _ (sym c.token_at-t.ensures ∙ c.in-Word.is) k))
    | inr k ↦ sym (ap cell_answer (argument_word _ _ _ x _ _ _ _ (sym c.token_at-t.ensures ∙ c.in-Word.is) k))
  ],
  cell_refused 3 c.in-Word.p _ refl,
  ahead_refused _ _ 3 c.in-Word.p _ refl,
)
