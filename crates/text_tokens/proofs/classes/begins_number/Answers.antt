use mathlib.Core.Path.{sym, ◌∙◌}
use native.Mathlib.Omega.{arith}
use Rattle.text_tokens.proofs.Begun.{number_empty, number_digit, number_other, number_minus_end, number_minus}
use Rattle.text_tokens.proofs.classes.begins_number.Goals as goal

pub returns-then-w-eq0 : goal.returns-then-w-eq0
returns-then-w-eq0 c = sym (number_empty _ c.if-w-eq0.true)

pub returns-then-is_digit : goal.returns-then-is_digit
returns-then-is_digit c = sym (number_digit _ (omega arith) (sym c.is_digit.ensures ∙ c.if-is_digit.true))

pub returns-then-w-ne45 : goal.returns-then-w-ne45
returns-then-w-ne45 c = sym (number_other _ (omega arith) (sym c.is_digit.ensures ∙ c.if-is_digit.false) c.if-w-ne45.true)

pub returns-then-w-eq1 : goal.returns-then-w-eq1
returns-then-w-eq1 c = sym (number_minus_end _ c.if-w-eq1.true (sym c.is_digit.ensures ∙ c.if-is_digit.false))

pub returns : goal.returns
returns c = c.is_digit-2.ensures ∙ sym (number_minus _ (omega arith) (sym c.is_digit.ensures ∙ c.if-is_digit.false) c.if-w-ne45.false)
