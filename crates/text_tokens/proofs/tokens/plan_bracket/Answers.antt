use borrow.Author.Tests.{eq-eqb, ne_eqb}
use Rattle.text_tokens.specs.Tokens.{square_of}
use Rattle.text_tokens.proofs.tokens.plan_bracket.Goals as goal

pub returns-then-b-eq40 : goal.returns-then-b-eq40
unfolding square_of
returns-then-b-eq40 c = rw (eq-eqb _ _ c.if-b-eq40.true)

pub returns-then-b-eq41 : goal.returns-then-b-eq41
unfolding square_of
returns-then-b-eq41 c = rw (ne_eqb _ _ c.if-b-eq40.false, eq-eqb _ _ c.if-b-eq41.true)

pub returns : goal.returns
unfolding square_of
returns c = rw (ne_eqb _ _ c.if-b-eq40.false, ne_eqb _ _ c.if-b-eq41.false)
