use mathlib.Core.Path.{◌≡◌, sym, ◌∙◌}
use Prim.Native.Nat.{◌-◌}
use native.Mathlib.Omega.{arith}
use Rattle.base_laws.proofs.Numerals.{ten_to}
use Rattle.text_tokens.proofs.Figures.{summed_start, summed_more, summed_other, summed_over}
use Rattle.text_tokens.proofs.numbers.digits_at.Goals as goal

pub loop-end-init : goal.loop-end-init
loop-end-init c = summed_start c.args.w.now c.args.from c.args.most c.requires.0

pub bounds-w-end : goal.bounds-w-end
bounds-w-end c = omega (arith, c.least_end-stop.ensures)

pub returns-then-not-is_digit : goal.returns-then-not-is_digit
returns-then-not-is_digit c = summed_other c.args.w.now c.args.from c.args.most c.loop-end.value c.loop-end.end c.loop-end.invariant (omega (arith, c.least_end-stop.ensures, c.loop-end-test.true)) (sym c.is_digit.ensures ∙ c.if-not-is_digit.true) c.requires.1

pub overflow_mul-value : goal.overflow_mul-value
overflow_mul-value c = omega (arith, c.loop-end.invariant.small, c.least_end-stop.ensures, ten_to (c.loop-end.end - c.args.from) 9 (omega (arith, c.least_end-stop.ensures)))

pub overflow_add-value : goal.overflow_add-value
overflow_add-value c = omega (arith, c.loop-end.invariant.small, c.digit.ensures.1, ten_to (c.loop-end.end - c.args.from) 9 (omega (arith, c.least_end-stop.ensures)))

pub loop-end-preserved : goal.loop-end-preserved
loop-end-preserved c = summed_more c.args.w.now c.args.from c.args.most c.loop-end.value c.loop-end.end c.loop-end.invariant c.digit.result (omega (arith, c.least_end-stop.ensures, c.loop-end-test.true)) (sym c.is_digit.ensures ∙ c.if-not-is_digit.false) c.digit.ensures.0 c.digit.ensures.1

pub returns : goal.returns
returns c = let e : c.least_end-stop.result ≡ c.loop-end.end = omega (arith, c.least_end-stop.ensures) in rw e (summed_over c.args.w.now c.args.from c.args.most c.loop-end.value c.loop-end.end c.loop-end.invariant (omega (arith, c.least_end-stop.ensures, c.loop-end-test.false)) c.requires.1)
