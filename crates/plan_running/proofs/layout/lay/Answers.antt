use Prim.Native.Nat.{◌+◌, ◌*◌, ◌≤◌}
use native.Mathlib.Omega.{arith}
use lib.ListN.{length}
use Rattle.plan_running.proofs.Rows.{laid_behind}
use Rattle.plan_running.proofs.layout.lay.Goals as goal

pub returns : goal.returns
returns c = let a = c.args in
    let e : 4 * a.j + 4 ≤ length a.points.now = omega arith in
    let d : 4 * a.j + 4 ≤ length a.whos.now = omega arith in
    λ l h k. rw c.when_of.ensures (laid_behind a.points.now a.whos.now a.j a.s e d l 0 (omega (arith, h)) k)
