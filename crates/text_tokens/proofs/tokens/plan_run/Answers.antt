use Rattle.text_tokens.proofs.Starts.{run_read}
use Rattle.text_tokens.proofs.tokens.plan_run.Goals as goal

pub returns : goal.returns
returns c = run_read _ _ _ _ _ c.run_end-e.ensures (rw c.part_of.ensures at c.plan_word.ensures) c.judged.ensures
