use Rattle.check_wording.proofs.Whole.{time_put}
use Rattle.check_wording.proofs.put_time.Goals as goal

pub returns : goal.returns
returns c = time_put _ _ _ c.put_number-point.ensures c.put_byte-first.ensures c.put_digit-second.ensures c.put_digit-third.ensures c.put_digit.ensures
