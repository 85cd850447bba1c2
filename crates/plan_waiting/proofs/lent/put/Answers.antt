use Rattle.plan_waiting.proofs.LentPlaces.{slot_put}
use Rattle.plan_waiting.proofs.lent.put.Goals as goal

pub returns : goal.returns
returns c = let a = c.args in
    let e = c.when_of.ensures in
    rw e (slot_put a.words.now a.objects.now a.p a.s c.requires.1 c.requires.0)
