use Prim.Native.Nat.{◌<◌}
use mathlib.Core.Path.{◌≡◌, refl, sym, ap, ◌∙◌}
use native.Mathlib.Omega.{arith}
use lib.ListN.{length}
use Rattle.plan_waiting.specs.Waiting.{used}
use Rattle.plan_running.specs.declared.Workspace.{Workspace}
use Rattle.plan_running.specs.Running.{queue_held}
use Rattle.plan_running.proofs.Laying.{lay_none, lay_next, points_count, points_laid}
use Rattle.plan_running.proofs.Slots.{due_slots, due_long, due_there}
use Rattle.plan_running.proofs.Workspace.lay_points.Goals as goal

pub loop-i-init : goal.loop-i-init
loop-i-init c = let w = c.args.self.now in (refl, lay_none (due_slots w.words w.objects c.due-k.result) w.points w.whos)

pub loop-i-preserved : goal.loop-i-preserved
loop-i-preserved c = let w = c.args.self.now in let k = c.due-k.result in let few = c.due-k.ensures.0 in let i = c.loop-i.i in let v = c.loop-i.invariant in
    let l : i < length (due_slots w.words w.objects k) = omega (arith, due_long w.words w.objects w.count c.requires k few) in
    let place = rw v.0 at c.due_place.ensures.0 in
    let slot = rw v.0 at c.slot_at-s.ensures in
    let there = due_there w.words w.objects w.count c.requires k few i c.loop-i-test.true place ∙ sym slot in (
      ap (λ (s : Workspace). record s { points = c.lay.new.points; whos = c.lay.new.whos }) v.0,
      lay_next v.1 l there c.lay.ensures,
    )

pub returns : goal.returns
returns c = let w = c.args.self.now in let k = c.due-k.result in let few = c.due-k.ensures.0 in let v = c.loop-i.invariant in
    let e : c.loop-i.i ≡ k = omega arith in
    let laid = rw e at v.1 in
    let l = used (queue_held w) in
    let long = due_long w.words w.objects w.count c.requires k few in (
      let m = c.requires.few in omega arith,
      v.0,
      λ b et. let is = (c.due-k.ensures.1 w.objects b c.requires et).is in
          (points_count c.args.t l (due_slots w.words w.objects k) long is, λ rows. points_laid c.args.t l (due_slots w.words w.objects k) long is rows laid),
    )
