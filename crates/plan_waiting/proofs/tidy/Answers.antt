use Rattle.std.proofs.Common.{rules, ◌≡◌, length}
use Rattle.plan_waiting.proofs.Places.{length_mapped, zero_slot, filled_is}
use Rattle.plan_waiting.proofs.tidy.Goals as goal

pub returns : goal.returns
returns c = let q = c.args.q in
    let long : length q.slots ≡ 64 = search (rules, length_mapped) in
    filled_is q.slots _ q.count _ long c.requires (zero_slot _ c.default.ensures) (c.fill.ensures.after (λ y e. e))
