use Rattle.domain_preparing.proofs.Testing.{goal_stored}
use Rattle.domain_preparing.proofs.prepare_goal.Goals as goal

pub returns : goal.returns
returns c = goal_stored _ _ _ _ c.args.goal.now c.put_cond-c.ensures.0.stored c.put.ensures
