use native.Mathlib.Omega.{arith}
use mathlib.Core.Path.{refl}
use Rattle.domain_forms.proofs.Storing.{stored_as}
use Rattle.domain_forms.proofs.Numerals.{number_whole, number_thousands, number_fine}
use Rattle.domain_forms.proofs.numbers.put_number.Goals as goal

pub returns-then-t-gt15 : goal.returns-then-t-gt15
returns-then-t-gt15 c = (stored_as _ _ (number_whole c.args.code.now c.args.at c.args.tag refl c.little_at-v.ensures.0 c.sign_base-base.ensures.0 c.if-t-gt15.true) c.put_literal.ensures.0, omega arith)

pub returns-then-v-eq0 : goal.returns-then-v-eq0
returns-then-v-eq0 c = (stored_as _ _ (number_thousands c.args.code.now c.args.at c.args.tag refl c.little_at-v.ensures.0 c.sign_base-base.ensures.0 c.if-t-gt15.false c.if-v-eq0.true) c.put_literal-then-v-eq0.ensures.0, omega arith)

pub returns : goal.returns
returns c = (stored_as _ _ (number_fine c.args.code.now c.args.at c.args.tag refl c.little_at-v.ensures.0 c.sign_base-base.ensures.0 c.if-t-gt15.false c.if-v-eq0.false) c.put_literal-2.ensures.0, omega arith)
