use mathlib.Core.Path.{sym, ◌∙◌}
use native.Mathlib.Omega.{arith}
use Rattle.text_tokens.proofs.Steps.{digits_bounds}
use Rattle.text_tokens.proofs.Values.{product_most}
use Rattle.text_tokens.proofs.Figures.{decimals_none, decimals_fine, decimals_on, decimals_read}
use Rattle.text_tokens.proofs.numbers.decimals_at.Goals as goal

pub overflow_sub-n : goal.overflow_sub-n
overflow_sub-n c = omega (arith, c.digits_at-d.ensures.0, (digits_bounds c.args.text.now c.args.from).0)

pub returns-then-n-eq0 : goal.returns-then-n-eq0
returns-then-n-eq0 c = decimals_none c.args.text.now c.args.stop c.args.whole c.args.from c.requires.0 c.requires.1 (omega (arith, c.digits_at-d.ensures.0, (digits_bounds c.args.text.now c.args.from).0))

pub returns-then-n-gt3 : goal.returns-then-n-gt3
returns-then-n-gt3 c = decimals_fine c.args.text.now c.args.stop c.args.whole c.args.from c.requires.0 c.requires.1 (omega (arith, c.digits_at-d.ensures.0, (digits_bounds c.args.text.now c.args.from).0))

pub returns-then-not-is_over : goal.returns-then-not-is_over
returns-then-not-is_over c = decimals_on c.args.text.now c.args.stop c.args.whole c.args.from c.requires.0 c.requires.1 _ (omega (arith, c.digits_at-d.ensures.0, (digits_bounds c.args.text.now c.args.from).0)) (sym c.is_over.ensures ∙ c.if-not-is_over.true)

pub overflow_mul-result-2 : goal.overflow_mul-result-2
overflow_mul-result-2 c = omega (arith, product_most c.digits_at-d.result.value c.scale.result c.digits_at-d.ensures.2 c.scale.ensures.1)

pub overflow_add-result : goal.overflow_add-result
overflow_add-result c = omega (arith, product_most c.digits_at-d.result.value c.scale.result c.digits_at-d.ensures.2 c.scale.ensures.1)

pub returns : goal.returns
returns c = decimals_read c.args.text.now c.args.stop c.args.whole c.args.from c.requires.0 c.requires.1 c.digits_at-d.result.end (omega (arith, c.digits_at-d.ensures.0, (digits_bounds c.args.text.now c.args.from).0)) c.digits_at-d.result.value c.scale.result (omega arith) (omega arith) (sym c.is_over.ensures ∙ c.if-not-is_over.false) c.digits_at-d.ensures.1 c.scale.ensures.0
