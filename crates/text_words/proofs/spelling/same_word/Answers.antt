use mathlib.Core.Path.{◌≡◌, sym, ◌∙◌}
use native.Mathlib.Omega.{arith}
use lib.ListN.{length}
use Rattle.text_words.proofs.Steps.{same_over, same_length, same_before, other_before}
use Rattle.text_words.proofs.spelling.same_word.Goals as goal

pub returns-then-a-b : goal.returns-then-a-b
returns-then-a-b c = sym (same_length _ _ c.if-a-b.true)

pub loop-i-init : goal.loop-i-init
loop-i-init c = (omega arith, same_over c.args.a.now c.args.b.now (length c.args.a.now) (omega arith) (omega arith))

pub returns-then-lower : goal.returns-then-lower
returns-then-lower c = sym (other_before _ _ _ c.loop-i-test.true c.loop-i.invariant.0 (omega arith) (λ e. c.if-lower.true (c.lower.ensures ∙ e ∙ sym c.lower-in-loop-i.ensures)))

pub loop-i-preserved : goal.loop-i-preserved
loop-i-preserved c = (omega arith, same_before _ _ _ c.loop-i-test.true c.loop-i.invariant.0 (omega arith) (sym c.lower.ensures ∙ c.if-lower.false ∙ c.lower-in-loop-i.ensures) c.loop-i.invariant.1)

pub returns : goal.returns
returns c = let e : c.loop-i.i ≡ 0 = omega arith in sym (rw e at c.loop-i.invariant.1)
