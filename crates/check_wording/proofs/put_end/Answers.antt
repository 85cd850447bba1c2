use Rattle.check_wording.proofs.Whole.{ended_put}
use Rattle.check_wording.proofs.put_end.Goals as goal

pub returns : goal.returns
returns c = ended_put c.args.out.now _ _ _ c.put_spaced-second.ensures c.put_spaced-last.ensures c.put_byte.ensures
