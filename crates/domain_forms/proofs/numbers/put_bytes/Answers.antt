use mathlib.Core.Path.{refl, sym, ap, ◌∙◌}
use Prim.Native.Nat.{◌-◌}
use native.Mathlib.Omega.{arith}
use native.Mathlib.Nat.{add-zero, sub-zero}
use lib.ListN.{length, length-set}
use Rattle.domain_literals.proofs.Cells.{bytes_step, bytes_end}
use Rattle.domain_forms.proofs.numbers.put_bytes.Goals as goal

pub loop-i-init : goal.loop-i-init
loop-i-init c = (omega arith, refl, rw (add-zero _, sub-zero _))

pub loop-i-preserved : goal.loop-i-preserved
loop-i-preserved c = (omega arith, ap length c.put.ensures ∙ simp length-set c.loop-i.invariant.1, rw c.put.ensures (bytes_step _ _ _ _ _ c.loop-i-test.true ∙ c.loop-i.invariant.2))

pub returns : goal.returns
returns c = sym (bytes_end _ _ _ _ _ c.loop-i-test.false) ∙ c.loop-i.invariant.2
