use mathlib.Core.Path.{◌≡◌, refl, sym, ◌∙◌}
use Prim.Native.Nat.{◌-◌}
use native.Mathlib.Omega.{arith}
use lib.ListN.{length, length-set}
use Rattle.domain_rows.proofs.Rows.{rows_long, signed_step, signed_end}
use Rattle.domain_rows.proofs.signature.Goals as goal

pub loop-i-init : goal.loop-i-init
loop-i-init c = (omega arith, refl, λ t h. refl)

pub overflow_mul-out : goal.overflow_mul-out
overflow_mul-out c = omega (arith, rows_long _ _ _ c.requires.0.0 c.requires.0.1, c.requires.0.1.fits)

pub overflow_add-out : goal.overflow_add-out
overflow_add-out c = omega (arith, rows_long _ _ _ c.requires.0.0 c.requires.0.1, c.requires.0.1.fits)

pub bounds-rows-i : goal.bounds-rows-i
bounds-rows-i c = omega (arith, rows_long _ _ _ c.requires.0.0 c.requires.0.1, c.requires.0.1.fits)

pub bounds-out-i : goal.bounds-out-i
bounds-out-i c = let q : length c.loop-i.out ≡ length c.args.out.now = c.loop-i.invariant.1 ∙ simp length-set in omega (arith, c.requires.1)

pub loop-i-preserved : goal.loop-i-preserved
loop-i-preserved c = let l = c.loop-i in (omega arith, simp length-set (l.invariant.1 ∙ simp length-set), λ t h. signed_step _ _ _ t h l.out l.i c.loop-i-test.true ∙ l.invariant.2 t h)

pub shape_of-out : goal.shape_of-out
shape_of-out c = c.loop-i.invariant.1 ∙ simp length-set

pub returns : goal.returns
returns c = let l = c.loop-i in λ t h. sym (signed_end _ _ _ t h l.out l.i c.loop-i-test.false) ∙ l.invariant.2 t h
