use mathlib.Core.Path.{refl, sym, ◌∙◌}
use Prim.Native.Nat.{◌<◌}
use native.Mathlib.Omega.{arith}
use borrow.Author.Rules.{rules}
use Rattle.domain_init.proofs.Digits.{numeral_step, numeral_end, numeral_room, numeral_small, product_small}
use Rattle.domain_init.proofs.grounds.numeral_of.Goals as goal

pub loop-i-init : goal.loop-i-init
loop-i-init c = (omega arith, omega arith, refl)

pub overflow_mul-acc : goal.overflow_mul-acc
overflow_mul-acc c = omega (arith, product_small _ _ (numeral_small _ _ (omega arith) c.loop-i.invariant.1) c.requires.2)

pub overflow_add-acc : goal.overflow_add-acc
overflow_add-acc c = let b : c.byte.result < 256 = search rules in omega (arith, product_small _ _ (numeral_small _ _ (omega arith) c.loop-i.invariant.1) c.requires.2)

pub loop-i-preserved : goal.loop-i-preserved
loop-i-preserved c = (omega arith, numeral_room _ _ _ _ c.requires.2 (search rules) c.loop-i.invariant.1, numeral_step _ _ _ _ _ _ c.requires.0 (omega arith) c.byte.ensures ∙ c.loop-i.invariant.2)

pub returns : goal.returns
returns c = (sym (numeral_end c.args.cells.now c.args.k c.args.n c.loop-i.acc c.loop-i.i (omega arith)) ∙ c.loop-i.invariant.2, numeral_small c.loop-i.acc c.loop-i.i (omega arith) c.loop-i.invariant.1)
