use mathlib.Core.Path.{sym, ◌∙◌}
use native.Mathlib.Omega.{arith}
use borrow.Author.Tests.{ne_eqb}
use Rattle.program_arguments.specs.Arguments.{size_in}
use Rattle.program_arguments.proofs.Digits.{size_other, size_large, size_next, size_end}
use Rattle.program_arguments.proofs.arguments.part_size.Goals as goal

pub returns-then-not-is_ascii_digit : goal.returns-then-not-is_ascii_digit
unfolding size_in
returns-then-not-is_ascii_digit c = rw (sym c.loop-b.invariant.0 ∙ size_other _ _ _ c.loop-b-test.true (sym c.is_ascii_digit.ensures.value ∙ c.if-not-is_ascii_digit.true))

pub returns-then-size-gt65536 : goal.returns-then-size-gt65536
unfolding size_in
returns-then-size-gt65536 c = rw (sym c.loop-b.invariant.0 ∙ size_large _ _ _ c.loop-b-test.true (rw c.from.ensures at c.if-size-gt65536.true))

pub loop-b-preserved : goal.loop-b-preserved
loop-b-preserved c =
    let d = sym c.is_ascii_digit.ensures.value ∙ c.if-not-is_ascii_digit.false in
    rw c.from.ensures (sym (size_next _ _ _ c.loop-b-test.true d (rw c.from.ensures at c.if-size-gt65536.false)) ∙ c.loop-b.invariant.0, omega arith)

pub returns-then-size-eq0 : goal.returns-then-size-eq0
unfolding size_in
returns-then-size-eq0 c = rw (sym c.loop-b.invariant.0 ∙ size_end _ _ _ c.loop-b-test.false, c.if-size-eq0.true)

pub returns-else-size-eq0 : goal.returns-else-size-eq0
unfolding size_in
returns-else-size-eq0 c = rw (sym c.loop-b.invariant.0 ∙ size_end _ _ _ c.loop-b-test.false, ne_eqb _ 0 c.if-size-eq0.false)
