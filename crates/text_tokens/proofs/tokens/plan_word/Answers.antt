use mathlib.Core.Logic.{⊎_elim}
use mathlib.Core.Path.{sym, ◌∙◌}
use Rattle.text_tokens.specs.Tokens.{plan_word}
use Rattle.text_tokens.proofs.tokens.plan_word.Goals as goal

pub returns-in-Number : goal.returns-in-Number
unfolding plan_word
returns-in-Number c = c.plan_number.ensures ∙ rw (sym c.class_of.ensures ∙ c.in-Number.is)

pub returns-in-Name : goal.returns-in-Name
unfolding plan_word
returns-in-Name c = c.sized.ensures ∙ rw (sym c.class_of.ensures ∙ c.in-Name.is)

pub returns-in-Variable : goal.returns-in-Variable
unfolding plan_word
returns-in-Variable c = c.strange.ensures ∙ rw (← c.class_of.ensures) (⊎_elim (λ e. rw e) (λ e. rw e) c.in-Variable.is)

pub returns-in-Operator : goal.returns-in-Operator
unfolding plan_word
returns-in-Operator c = rw (← c.class_of.ensures) (⊎_elim (λ e. rw e) (λ e. rw e) c.in-Operator.is)
