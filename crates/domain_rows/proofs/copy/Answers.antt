use mathlib.Core.Path.{refl, sym, ap, ◌∙◌}
use Prim.Native.Nat.{ℕ, ◌-◌}
use native.Mathlib.Omega.{arith}
use native.Mathlib.Nat.{add-zero}
use lib.ListN.{length-set}
use lib.Seq.{sets}
use Rattle.base_laws.proofs.Sets.{sets_step, sets_end}
use Rattle.domain_rows.proofs.copy.Goals as goal

pub loop-i-init : goal.loop-i-init
loop-i-init c = (omega arith, refl, ap (λ (k : ℕ). sets c.args.rows.now k c.args.w.now) (add-zero c.args.at))

pub loop-i-preserved : goal.loop-i-preserved
loop-i-preserved c = let l = c.loop-i in (omega arith, simp length-set l.invariant.1, sets_step l.rows _ _ l.i c.loop-i-test.true ∙ l.invariant.2)

pub shape_of-rows : goal.shape_of-rows
shape_of-rows c = c.loop-i.invariant.1

pub returns : goal.returns
returns c = let l = c.loop-i in sym (sets_end l.rows _ _ l.i c.loop-i-test.false) ∙ l.invariant.2
