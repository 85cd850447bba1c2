use mathlib.Core.Path.{ap, ◌∙◌}
use Prim.Native.Nat.{ℕ}
use native.Mathlib.Omega.{arith}
use Rattle.plan_meaning.specs.Plan.{time}
use Rattle.plan_meaning.specs.Stored.{point_in}
use Rattle.plan_waiting.specs.Lent.{slot_in}
use Rattle.plan_waiting.proofs.LentPlaces.{timed_place, latest_place}
use Rattle.plan_waiting.proofs.lent.last.Goals as goal

pub time_at-requires : goal.time_at-requires
time_at-requires c = (c.place_at.ensures.1, rw c.place_at.ensures.0 (timed_place _ _ c.loop-i.i c.requires c.loop-i-test.true))

pub loop-i-preserved : goal.loop-i-preserved
loop-i-preserved c = let w = c.args.words.now in
    let i = c.loop-i.i in
    let few = c.requires.1.1.0 in (
      λ o.
          let m = latest_place w o i (omega arith) in
          let best = c.loop-i.invariant.0 o in
          let time = c.time_at.ensures.0 o ∙ ap (λ (p : ℕ). time (point_in (slot_in w o p))) c.place_at.ensures.0 in
          omega (arith, c.max-best.ensures),
      omega (arith, c.max-best.ensures, c.time_at.ensures.1),
    )
