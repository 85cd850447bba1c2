use mathlib.Core.Path.{◌≡◌, sym, ◌∙◌}
use lib.ListN.{length}
use native.Mathlib.Nat.{zero-add}
use native.Mathlib.Omega.{arith}
use Rattle.plan_bytes.proofs.Ends.{ends_here, ends_later, ends_nowhere}
use Rattle.plan_bytes.proofs.bytes.line_end.Goals as goal

pub loop-at-init : goal.loop-at-init
loop-at-init c = zero-add _

pub returns-then-b-eq10 : goal.returns-then-b-eq10
returns-then-b-eq10 c = sym (ends_here _ c.loop-at.at (omega arith) c.if-b-eq10.true) ∙ c.loop-at.invariant

pub loop-at-preserved : goal.loop-at-preserved
loop-at-preserved c = sym (ends_later _ c.loop-at.at (omega arith) c.if-b-eq10.false) ∙ c.loop-at.invariant

pub returns : goal.returns
returns c = let e : length c.args.part.now ≡ c.loop-at.at = omega arith in e ∙ sym (ends_nowhere _ c.loop-at.at c.loop-at-test.false) ∙ c.loop-at.invariant
