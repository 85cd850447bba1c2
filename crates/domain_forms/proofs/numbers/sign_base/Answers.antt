use native.Mathlib.Omega.{arith}
use borrow.Author.Tests.{eq-eqb, ne_eqb}
use Rattle.domain_forms.proofs.numbers.sign_base.Goals as goal

pub returns-then-v-eq0 : goal.returns-then-v-eq0
returns-then-v-eq0 c = (rw (c.if-negative.true, eq-eqb _ _ c.if-v-eq0.true), omega arith)

pub returns-then-negative : goal.returns-then-negative
returns-then-negative c = (rw (c.if-negative.true, ne_eqb _ _ c.if-v-eq0.false), omega arith)
