use mathlib.Core.Path.{refl, ◌∙◌}
use mathlib.Core.List.{[]}
use Rattle.domain_meaning.specs.Tables.{entry}
use Rattle.domain_preparing.proofs.Acting.{acted_length, onward_start, onward_step, onward_end}
use native.Mathlib.Omega.{arith}
use Prim.Native.Nat.{◌-◌}
use Rattle.domain_preparing.proofs.actions.put_actions.Goals as goal

pub loop-j-init : goal.loop-j-init
loop-j-init c = (omega arith, omega arith, omega arith, refl, onward_start _ _ _ c.args.code.now c.args.starts.now c.args.acting _)

pub loop-j-preserved : goal.loop-j-preserved
loop-j-preserved c = (omega arith, omega (arith, (c.put_action-u.ensures.0 (entry [] [])).ends), omega arith, acted_length _ _ _ (c.put_action-u.ensures.0 (entry [] [])) ∙ c.loop-j.invariant.3, onward_step _ _ _ c.args.code.now c.args.starts.now c.args.acting _ _ _ _ c.loop-j.invariant.4 c.loop-j-test.true c.requires.2 c.loop-j.invariant.1 c.put_action-u.ensures.0)

pub shape_of-rows : goal.shape_of-rows
shape_of-rows c = c.loop-j.invariant.3

pub returns : goal.returns
returns c = onward_end _ _ _ c.args.code.now c.args.starts.now c.args.acting _ _ _ _ c.loop-j.invariant.4 c.loop-j-test.false
