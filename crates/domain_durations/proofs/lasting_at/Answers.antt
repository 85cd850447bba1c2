use Rattle.std.proofs.lemmas.Result.{err_from_is_err_and}
use native.Mathlib.Omega.{arith}
use Rattle.text_words.specs.Bytes.{bytes}
use Rattle.domain_due.proofs.Dues.{ahead_done}
use Rattle.domain_durations.proofs.Rules.{lasts_unsaid, lasts_ruled, lasts_not, reached_refused, reached_moment, reached_rule}
use Rattle.domain_durations.proofs.lasting_at.Goals as goal

pub returns-in_err-at : goal.returns-in_err-at
unfolding bytes
returns-in_err-at c = let p = err_from_is_err_and c.from_residual.result c.from_residual.ensures.1 in rw (p.1, p.2, ← c.in_err-at.was) ((λ x h. lasts_unsaid _ x _ _ _ _ c.if-durative.true _ c.word_due.ensures.0 _ _ c.in_err-at.was, reached_refused _ _ _ _ _ _ c.in_err-at.was))

pub duration_at-requires : goal.duration_at-requires
duration_at-requires c = let b = ahead_done _ _ _ _ _ c.in_ok-at.was c.word_due.ensures.1 in (b.1, c.requires.1, omega (arith, b.0, b.1, c.requires.2))

pub returns-then-durative : goal.returns-then-durative
unfolding bytes
returns-then-durative c = let b = ahead_done _ _ _ _ _ c.in_ok-at.was c.word_due.ensures.1 in (λ x h. lasts_ruled _ x _ _ _ _ c.if-durative.true _ c.word_due.ensures.0 _ _ _ _ _ c.in_ok-at.was c.put.ensures (c.duration_at.ensures.0 x h), reached_rule _ _ _ _ _ b.0 c.duration_at.ensures.1 c.duration_at.ensures.2)

pub returns : goal.returns
returns c = (λ x h. lasts_not _ x _ _ _ _ _ c.if-durative.false c.put-2.ensures, reached_moment _ _ _ c.requires.0)
