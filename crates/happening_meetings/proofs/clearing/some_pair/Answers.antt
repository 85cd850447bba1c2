use Rattle.happening_meetings.proofs.Given.{pairs_scanned}
use Rattle.happening_meetings.proofs.clearing.some_pair.Goals as goal

pub returns : goal.returns
returns c = pairs_scanned c.args.rows.now c.args.points.now c.args.objects.now c.args.n c.requires.0 c.scan_all-r.ensures.0 c.scan_all-r.ensures.1 c.wipe_all.ensures
