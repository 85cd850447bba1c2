use Rattle.happening_state.specs.States.{state_in}
use Rattle.happening_tests.proofs.Goals.{goal_holds}
use Rattle.happening_tests.proofs.goal.reach.Goals as goal

pub returns : goal.returns
returns c = goal_holds (state_in c.args.facts.now c.args.numbers.now) c.args.goal.now c.hold.ensures
