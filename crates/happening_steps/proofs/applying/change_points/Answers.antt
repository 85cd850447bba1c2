use mathlib.Core.Path.{◌∙◌, ap}
use native.Mathlib.Omega.{arith}
use Rattle.happening_meaning.specs.Happening.{change_points}
use Rattle.happening_forms.specs.Summed.{summed}
use Rattle.happening_meetings.proofs.Given.{points_all}
use Rattle.happening_steps.proofs.Applied.{room_first, room_here, room_next, change_end, change_turn, change_fails}
use Rattle.happening_steps.proofs.applying.change_points.Goals as goal

pub loop-j-init : goal.loop-j-init
loop-j-init c = (room_first c.args.n c.args.old.now c.args.fresh.now c.requires.0 c.requires.3, ap (change_points summed c.args.old.now c.args.fresh.now) (points_all c.args.rows.now c.args.points.now c.args.objects.now c.args.n))

pub change-o-requires : goal.change-o-requires
change-o-requires c = (omega arith, room_here c.args.rows.now c.args.n c.loop-j.j c.args.old.now c.loop-j.fresh c.loop-j-test.true c.requires.2 c.loop-j.invariant.0 c.point_at-p.result.effects)

pub returns-in_default : goal.returns-in_default
returns-in_default c = change_fails c.args.rows.now c.args.points.now c.args.objects.now c.args.n c.loop-j.j c.loop-j-test.true c.point_at-p.ensures c.args.old.now c.loop-j.fresh c.change-o.ensures c.in_default.not-Done ∙ c.loop-j.invariant.1

pub loop-j-preserved : goal.loop-j-preserved
loop-j-preserved c = (room_next c.args.rows.now c.args.n c.loop-j.j c.args.old.now c.loop-j.fresh c.loop-j-test.true c.requires.2 c.loop-j.invariant.0 c.args.objects.now c.point_at-p.result c.change-o.ensures, change_turn c.args.rows.now c.args.points.now c.args.objects.now c.args.n c.loop-j.j c.loop-j-test.true c.point_at-p.ensures c.args.old.now c.loop-j.fresh c.change-o.ensures c.in-Done.is ∙ c.loop-j.invariant.1)

pub returns : goal.returns
returns c = change_end c.args.rows.now c.args.points.now c.args.objects.now c.args.n c.loop-j.j c.loop-j-test.false c.args.old.now c.loop-j.fresh ∙ c.loop-j.invariant.1
