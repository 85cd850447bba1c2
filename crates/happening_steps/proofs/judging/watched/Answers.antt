use Rattle.happening_steps.proofs.Spanned.{watching_by}
use Rattle.happening_steps.proofs.judging.watched.Goals as goal

pub returns : goal.returns
returns c = λ line d. watching_by c.args.rows.now c.args.objects.now c.args.k line c.args.action d c.during-from.ensures c.mask_of.ensures
