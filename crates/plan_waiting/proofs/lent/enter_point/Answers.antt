use Rattle.plan_meaning.specs.declared.Slot.{Slot}
use Prim.Native.Nat.{◌*◌}
use mathlib.Core.Path.{ap, ◌∙◌}
use Prim.Native.Nat.{ℕ, ◌+◌}
use Rattle.plan_meaning.specs.Plan.{time}
use Rattle.plan_meaning.specs.Stored.{point_in}
use Rattle.plan_waiting.proofs.Entering.{kept_enter, used_enter, point_entered}
use Rattle.plan_waiting.proofs.lent.enter_point.Goals as goal

pub returns : goal.returns
returns c = let a = c.args in
    let w = a.words.now in
    let o = a.objects.now in
    let u = c.put in
    let p = c.place_at-p.result in
    let ep = c.place_at-p.ensures.0 in
    let e = c.enter in
    let et = c.time_at.ensures.0 u.new.objects ∙ ap (λ (x : Slot). time (point_in x)) u.ensures.there in
    let ek = ap (λ (t : ℕ). t * 64 + p) et in (
      kept_enter w o a.n c.requires.0 c.requires.1 a.s u.new.words u.new.objects p ep u.ensures e.new.words e.result _ e.ensures.1 e.ensures.2 e.ensures.0 ek,
      used_enter w o a.n c.requires.0 c.requires.1 a.s u.new.words u.new.objects p ep u.ensures e.new.words e.result _ e.ensures.1 e.ensures.2 e.ensures.0 ek,
      point_entered w o a.n c.requires.0 c.requires.1 a.s u.new.words u.new.objects p ep u.ensures e.new.words e.result _ e.ensures.1 e.ensures.2 e.ensures.0 ek,
    )
