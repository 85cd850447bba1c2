use Rattle.std.proofs.lemmas.Result.{err_from_is_err_and}
use Rattle.domain_due.proofs.Dues.{ahead_done, ahead_refused, ahead_by}
use Rattle.text_words.specs.Bytes.{bytes}
use Rattle.domain_timed_parts.proofs.Timing.{over_refused, over_read}
use Rattle.domain_timed_parts.proofs.times.behind_over.Goals as goal

pub returns-in_err-after : goal.returns-in_err-after
unfolding bytes
returns-in_err-after c = let p = err_from_is_err_and c.from_residual.result c.from_residual.ensures.1 in rw (p.1, p.2, ← c.in_err-after.was) ((over_refused _ _ _ _ _ _ c.word_due.ensures.0 c.in_err-after.was, ahead_refused _ _ _ _ _ c.in_err-after.was))

pub returns : goal.returns
unfolding bytes
returns c = let w = ahead_done _ _ _ _ _ c.in_ok-after.was c.word_due.ensures.1 in (over_read _ _ _ _ _ _ c.word_due.ensures.0 c.in_ok-after.was, ahead_by _ _ _ _ w.0 w.1)
