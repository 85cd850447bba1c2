use native.Mathlib.Nat.{pow-zero}
use mathlib.Core.Path.{◌≡◌, sym}
use Prim.Native.Nat.{◌-◌}
use native.Mathlib.Omega.{arith}
use Rattle.base_laws.proofs.Numerals.{power_next}
use Rattle.domain_indexes.proofs.Sums.{power_most, product_most}
use Rattle.domain_indexes.proofs.power.Goals as goal

pub loop-i-init : goal.loop-i-init
loop-i-init c = (omega arith, sym (pow-zero _))

pub overflow_mul-p : goal.overflow_mul-p
overflow_mul-p c = omega (arith, product_most _ _ (power_most _ _ _ 3 c.requires.0 (omega arith) c.loop-i.invariant.1) c.requires.0)

pub loop-i-preserved : goal.loop-i-preserved
loop-i-preserved c = (omega arith, power_next _ _ _ c.loop-i.invariant.1)

pub returns : goal.returns
returns c = let e : c.loop-i.i ≡ c.args.k = omega arith in (rw e at c.loop-i.invariant.1, power_most _ _ _ 4 c.requires.0 (omega arith) c.loop-i.invariant.1)
