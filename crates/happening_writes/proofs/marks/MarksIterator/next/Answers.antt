use Rattle.happening_writes.proofs.Showing.{whole_first}
use Rattle.happening_writes.proofs.marks.MarksIterator.next.Goals as goal

pub returns-clause-steps : goal.returns-clause-steps
returns-clause-steps c = whole_first c.args.self.now c.step.new.self c.step.result c.step.ensures
