use mathlib.Core.Path.{sym, ◌∙◌}
use borrow.Author.Tests.{eq-eqb, ne_eqb}
use Rattle.text_tokens.specs.Runs.{gap_step}
use Rattle.text_tokens.proofs.runs.gap_step.Goals as goal

pub returns-then-b-eq10 : goal.returns-then-b-eq10
unfolding gap_step
returns-then-b-eq10 c = rw (c.if-comment.true, eq-eqb _ _ c.if-b-eq10.true)

pub returns-then-is_refused : goal.returns-then-is_refused
unfolding gap_step
returns-then-is_refused c = rw (c.if-comment.true, ne_eqb _ _ c.if-b-eq10.false, sym c.is_refused.ensures ∙ c.if-is_refused.true)

pub returns-then-comment : goal.returns-then-comment
unfolding gap_step
returns-then-comment c = rw (c.if-comment.true, ne_eqb _ _ c.if-b-eq10.false, sym c.is_refused.ensures ∙ c.if-is_refused.false)

pub returns-then-b-eq59 : goal.returns-then-b-eq59
unfolding gap_step
returns-then-b-eq59 c = rw (c.if-comment.false, eq-eqb _ _ c.if-b-eq59.true)

pub returns-then-is_white : goal.returns-then-is_white
unfolding gap_step
returns-then-is_white c = rw (c.if-comment.false, ne_eqb _ _ c.if-b-eq59.false, sym c.is_white.ensures ∙ c.if-is_white.true)

pub returns : goal.returns
unfolding gap_step
returns c = rw (c.if-comment.false, ne_eqb _ _ c.if-b-eq59.false, sym c.is_white.ensures ∙ c.if-is_white.false)
