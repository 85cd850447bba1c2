use native.Mathlib.Omega.{arith}
use Rattle.plan_waiting.proofs.Entering.{kept_none}
use Rattle.plan_waiting.proofs.lent.clear.Goals as goal

pub returns : goal.returns
returns c = let k = c.loop-i in
    kept_none k.words c.args.objects.now k.invariant.0 c.requires.1 (λ m h. k.invariant.1 m (omega arith))
