use mathlib.Core.Logic.{⊎_elim}
use borrow.Author.Tests.{eq-eqb, ne_eqb}
use Rattle.text_words.specs.Bytes.{in_run}
use Rattle.text_words.proofs.bytes.in_run.Goals as goal
use Rattle.text_words.proofs.bytes.in_run.Goals.{then-b-eq59-via-then-b-eq59, then-b-eq59-via-else-b-eq59+then-b-stop}

pub returns-then-b-eq59 : goal.returns-then-b-eq59
unfolding in_run
returns-then-b-eq59 c = elim c.then-b-eq59.branch [
  | then-b-eq59-via-then-b-eq59 w ↦ simp (eq-eqb _ _ w.if-b-eq59.true)
  | then-b-eq59-via-else-b-eq59+then-b-stop w ↦ simp (ne_eqb _ _ w.if-b-eq59.false, eq-eqb _ _ w.if-b-stop.true)
]

pub returns-in-Digit : goal.returns-in-Digit
unfolding in_run
returns-in-Digit c = rw (ne_eqb _ _ c.if-b-eq59.false, ne_eqb _ _ c.if-b-stop.false, ← c.kind_of.ensures) (⊎_elim (λ e. rw e) (⊎_elim (λ e. rw e) (λ e. rw e)) c.in-Digit.is)

pub returns-in-Bracket : goal.returns-in-Bracket
unfolding in_run
returns-in-Bracket c = rw (ne_eqb _ _ c.if-b-eq59.false, ne_eqb _ _ c.if-b-stop.false, ← c.kind_of.ensures) (⊎_elim (λ e. rw e) (⊎_elim (λ e. rw e) (λ e. rw e)) c.in-Bracket.is)
