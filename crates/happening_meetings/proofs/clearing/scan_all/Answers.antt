use mathlib.Core.Path.{◌∙◌, refl}
use Rattle.happening_meetings.proofs.Given.{scan_turn, mark_turn}
use Rattle.happening_meetings.proofs.clearing.scan_all.Goals as goal

pub loop-j-preserved : goal.loop-j-preserved
loop-j-preserved c = (scan_turn c.args.rows.now c.args.points.now c.args.objects.now c.args.last c.loop-j.j c.loop-j-test.true c.point_at-p.ensures c.point_at-q.ensures c.walk_point-found.ensures c.walk_point-found-in-loop-j.ensures c.loop-j.found refl ∙ c.loop-j.invariant.0, mark_turn c.args.rows.now c.args.points.now c.args.objects.now c.args.last c.loop-j.j c.loop-j-test.true c.point_at-p.ensures c.point_at-q.ensures c.walk_point-found.ensures c.walk_point-found-in-loop-j.ensures ∙ c.loop-j.invariant.1)
