use Rattle.text_words.specs.Bytes.{bytes}
use Rattle.check_calls.proofs.outputs.write_line.Goals as goal

pub returns-then-refused : goal.returns-then-refused
unfolding bytes
returns-then-refused c = rw c.if-refused.true c.refusal_line.ensures

pub returns : goal.returns
returns c = rw c.if-refused.false c.verdict_line.ensures
