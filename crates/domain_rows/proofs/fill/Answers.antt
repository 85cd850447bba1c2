use mathlib.Core.Path.{refl}
use Prim.Native.Nat.{◌-◌}
use native.Mathlib.Omega.{arith}
use lib.ListN.{length-set}
use Rattle.domain_rows.proofs.Rows.{rows_long, filled_more, filled_end}
use Rattle.domain_rows.proofs.fill.Goals as goal

pub loop-i-init : goal.loop-i-init
loop-i-init c = (omega arith, omega arith, refl, λ t h. record { now = t; holds = h; same = refl })

pub overflow_mul-rows : goal.overflow_mul-rows
overflow_mul-rows c = omega (arith, rows_long _ _ _ c.requires.0.0 c.requires.0.1, c.requires.0.1.fits, c.loop-i.invariant.2)

pub overflow_add-rows : goal.overflow_add-rows
overflow_add-rows c = omega (arith, rows_long _ _ _ c.requires.0.0 c.requires.0.1, c.requires.0.1.fits, c.loop-i.invariant.2)

pub bounds-rows-i : goal.bounds-rows-i
bounds-rows-i c = omega (arith, rows_long _ _ _ c.requires.0.0 c.requires.0.1, c.requires.0.1.fits, c.loop-i.invariant.2)

pub loop-i-preserved : goal.loop-i-preserved
loop-i-preserved c = let l = c.loop-i in (omega arith, omega arith, simp length-set l.invariant.2, λ t h. filled_more _ l.rows _ l.i _ _ t c.loop-i-test.true (l.invariant.3 t h))

pub shape_of-rows : goal.shape_of-rows
shape_of-rows c = c.loop-i.invariant.2

pub returns : goal.returns
returns c = let l = c.loop-i in λ t h. filled_end _ l.rows _ l.i _ _ t c.loop-i-test.false (l.invariant.3 t h)
