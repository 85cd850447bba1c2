use mathlib.Core.Path.{◌∙◌}
use Rattle.text_tokens.proofs.Standing.{bracket_same}
use borrow.Author.Tests.{eq-eqb, ne_eqb}
use Rattle.text_tokens.specs.Signs.{is_sign}
use Rattle.text_tokens.proofs.signs.is_sign.Goals as goal

pub returns-then-b-eq58 : goal.returns-then-b-eq58
unfolding is_sign
returns-then-b-eq58 c = rw (eq-eqb _ _ c.if-b-eq58.true)

pub returns-else-b-eq58 : goal.returns-else-b-eq58
unfolding is_sign
returns-else-b-eq58 c = rw (ne_eqb _ _ c.if-b-eq58.false) (rw (← c.kind_of.ensures) (c.eq.ensures ∙ bracket_same c.kind_of.result))
