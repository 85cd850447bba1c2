use mathlib.Core.Path.{sym, ◌∙◌}
use mathlib.Core.Logic.{⊎_elim}
use borrow.Author.Tests.{eq-eqb, ne_eqb}
use Rattle.text_words.specs.Spelling.{name_byte}
use Rattle.text_words.proofs.Named.{small_name, digit_name}
use Rattle.text_words.proofs.spelling.is_name_byte.Goals as goal
use Rattle.text_words.proofs.spelling.is_name_byte.Goals.{then-is_small-via-then-is_small, then-is_small-via-else-is_small+then-is_digit}

pub returns-then-is_small : goal.returns-then-is_small
returns-then-is_small c = elim c.then-is_small.branch [
  | then-is_small-via-then-is_small w ↦ sym (small_name _ (sym c.is_small.ensures ∙ w.if-is_small.true))
  | then-is_small-via-else-is_small+then-is_digit w ↦ sym (digit_name _ (sym w.is_digit.ensures ∙ w.if-is_digit.true))
]

pub returns-in-Digit : goal.returns-in-Digit
unfolding name_byte
returns-in-Digit c = rw (← c.kind_of.ensures) (⊎_elim (λ e. rw e) (λ e. rw e) c.in-Digit.is)

pub returns-then-b-eq45 : goal.returns-then-b-eq45
unfolding name_byte
returns-then-b-eq45 c = simp (sym c.kind_of.ensures ∙ c.in-Mark.is, eq-eqb _ _ c.if-b-eq45.true)

pub returns-else-b-eq45 : goal.returns-else-b-eq45
unfolding name_byte
returns-else-b-eq45 c = simp (sym c.kind_of.ensures ∙ c.in-Mark.is, ne_eqb _ _ c.if-b-eq45.false)

pub returns-in-Bracket : goal.returns-in-Bracket
unfolding name_byte
returns-in-Bracket c = rw (← c.kind_of.ensures) (⊎_elim (λ e. rw e) (⊎_elim (λ e. rw e) (λ e. rw e)) c.in-Bracket.is)
