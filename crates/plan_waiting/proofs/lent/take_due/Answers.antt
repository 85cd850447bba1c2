use Prim.Native.Nat.{◌+◌, ◌-◌}
use mathlib.Core.Path.{◌≡◌, refl}
use native.Mathlib.Omega.{arith}
use Rattle.plan_waiting.proofs.Sifting.{sift_on, sift_end}
use Rattle.plan_waiting.proofs.lent.take_due.Goals as goal

pub loop-m-preserved : goal.loop-m-preserved
loop-m-preserved c = let a = c.args in
    let k = c.loop-m in
    let keys = c.requires.2 in (
      c.take_out.ensures.long,
      λ f h.
          sift_on (k.invariant.1 f h) (k.m - 1) (a.r + (k.m - 1)) (omega arith) (omega arith) (omega arith) keys.low (omega (arith, keys.sized, keys.within)) refl
          c.take_out.ensures,
    )

pub returns : goal.returns
returns c = let k = c.loop-m in
    let e : c.args.r + k.m ≡ c.args.r = omega arith in
    λ f h. rw e at (sift_end (k.invariant.1 f h) (omega arith) (omega arith) k.invariant.0)
