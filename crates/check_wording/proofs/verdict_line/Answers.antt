use Rattle.check_wording.proofs.Whole.{verdict_put}
use Rattle.check_wording.proofs.verdict_line.Goals as goal

pub returns : goal.returns
returns c = verdict_put _ _ _ (rw c.word_of.ensures at c.put_word-space.ensures) c.put_byte-time.ensures c.put_time-end.ensures (rw (c.line_of.ensures, c.second_of.ensures) at c.put_end.ensures)
