use Rattle.check_calls.proofs.outputs.standing_answer.Goals as goal

pub returns-then-refused : goal.returns-then-refused
returns-then-refused c = rw c.if-refused.true

pub returns : goal.returns
returns c = rw c.if-refused.false
