use native.Mathlib.Omega.{arith}
use Prim.Native.Nat.{◌-◌}
use Rattle.domain_forms.proofs.Storing.{toward_start, toward_as, toward_step, toward_end}
use Rattle.domain_forms.proofs.Folding.{shares_start, shares_step, shares_end}
use Rattle.domain_forms.proofs.forms.put_shares.Goals as goal

pub loop-i-init : goal.loop-i-init
loop-i-init c = (omega arith, omega arith, toward_as (shares_start c.args.code.now c.args.at c.args.k) (toward_start _ _ _))

pub loop-i-preserved : goal.loop-i-preserved
loop-i-preserved c = (omega arith, omega arith, toward_step _ _ _ _ _ _ _ (toward_as (shares_step c.args.code.now c.args.at c.args.k _ c.loop-i-test.true c.cell.ensures.0) c.loop-i.invariant.2) c.put_share-u.ensures.0)

pub shape_of-rows : goal.shape_of-rows
shape_of-rows c = c.loop-i.invariant.2.same

pub returns : goal.returns
returns c = (toward_end _ _ _ _ _ (toward_as (shares_end c.args.code.now c.args.at c.args.k _ c.loop-i-test.false) c.loop-i.invariant.2), omega arith)
