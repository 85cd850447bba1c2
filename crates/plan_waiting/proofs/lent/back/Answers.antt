use mathlib.Core.Path.{◌≡◌, sym, ap, ◌∙◌}
use Prim.Native.Nat.{◌<◌}
use native.Mathlib.Omega.{arith}
use Rattle.plan_waiting.specs.declared.Queue.{Queue}
use Rattle.plan_waiting.specs.Waiting.{queue_of}
use Rattle.plan_waiting.specs.Lent.{slot_in, queue_in}
use Rattle.plan_waiting.proofs.Places.{clean_more, cleaned_is}
use Rattle.plan_waiting.proofs.LentPlaces.{slots_long, slot_there}
use Rattle.plan_waiting.proofs.lent.back.Goals as goal

pub loop-i-init : goal.loop-i-init
unfolding queue_of
loop-i-init c = ap (λ (r : Queue). r.slots) c.nobody.ensures

pub loop-i-preserved : goal.loop-i-preserved
loop-i-preserved c = let w = c.args.words.now in
    let o = c.args.objects.now in
    let i = c.loop-i.i in
    let few : i < 64 = omega arith in
    let e = c.slot_at.ensures ∙ ap (slot_in w o) c.place_at.ensures.0 ∙ sym (slot_there w o i few) in
    rw (c.loop-i.invariant, e) (clean_more (queue_in w o 0).slots i (omega (arith, slots_long w o)) few)

pub returns : goal.returns
returns c = let w = c.args.words.now in
    let o = c.args.objects.now in
    let e : c.loop-i.i ≡ c.args.n = omega arith in
    rw (c.loop-i.invariant, e) (cleaned_is (queue_in w o 0).slots c.args.n (omega (arith, slots_long w o)))
