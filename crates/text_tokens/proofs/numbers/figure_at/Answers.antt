use mathlib.Core.Path.{sym, ◌∙◌}
use native.Mathlib.Omega.{arith}
use Rattle.text_tokens.proofs.Steps.{digits_bounds, over_not}
use Rattle.text_tokens.proofs.Figures.{figure_none, figure_large, figure_whole, figure_other, figure_point}
use Rattle.text_tokens.proofs.numbers.figure_at.Goals as goal

pub overflow_sub-n : goal.overflow_sub-n
overflow_sub-n c = omega (arith, c.digits_at-d.ensures.0, (digits_bounds c.args.text.now c.args.from).0)

pub returns-then-n-eq0 : goal.returns-then-n-eq0
returns-then-n-eq0 c = figure_none c.args.text.now c.args.stop c.args.from c.requires.0 (omega (arith, c.digits_at-d.ensures.0, (digits_bounds c.args.text.now c.args.from).0))

pub returns-then-n-gt9 : goal.returns-then-n-gt9
returns-then-n-gt9 c = figure_large c.args.text.now c.args.stop c.args.from c.requires.0 (omega (arith, c.digits_at-d.ensures.0, (digits_bounds c.args.text.now c.args.from).0))

pub returns-then-is_over : goal.returns-then-is_over
returns-then-is_over c = figure_whole c.args.text.now c.args.stop c.args.from c.requires.0 c.digits_at-d.result.end c.digits_at-d.result.value (omega (arith, c.digits_at-d.ensures.0, (digits_bounds c.args.text.now c.args.from).0)) (omega arith) (omega arith) c.digits_at-d.ensures.1 (sym c.is_over.ensures ∙ c.if-is_over.true)

pub bounds-text-end : goal.bounds-text-end
bounds-text-end c = omega (arith, (over_not c.args.text.now c.args.stop c.digits_at-d.result.end (sym c.is_over.ensures ∙ c.if-is_over.false)).0)

pub returns-then-text-end-ne46 : goal.returns-then-text-end-ne46
returns-then-text-end-ne46 c = figure_other c.args.text.now c.args.stop c.args.from c.requires.0 c.digits_at-d.result.end c.digits_at-d.result.value (omega (arith, c.digits_at-d.ensures.0, (digits_bounds c.args.text.now c.args.from).0)) (omega arith) (omega arith) c.digits_at-d.ensures.1 (sym c.is_over.ensures ∙ c.if-is_over.false) c.if-text-end-ne46.true

pub decimals_at-requires : goal.decimals_at-requires
decimals_at-requires c = (c.requires.0, omega (arith, (over_not c.args.text.now c.args.stop c.digits_at-d.result.end (sym c.is_over.ensures ∙ c.if-is_over.false)).0), c.digits_at-d.ensures.2)

pub returns : goal.returns
returns c = c.decimals_at.ensures ∙ figure_point c.args.text.now c.args.stop c.args.from c.requires.0 c.digits_at-d.result.end c.digits_at-d.result.value (omega (arith, c.digits_at-d.ensures.0, (digits_bounds c.args.text.now c.args.from).0)) (omega arith) (omega arith) c.digits_at-d.ensures.1 (sym c.is_over.ensures ∙ c.if-is_over.false) c.if-text-end-ne46.false
