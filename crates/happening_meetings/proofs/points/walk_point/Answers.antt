use mathlib.Core.Path.{refl}
use Rattle.happening_forms.specs.Summed.{four_at}
use Rattle.happening_meetings.proofs.Given.{point_went}
use Rattle.happening_meetings.proofs.points.walk_point.Goals as goal

pub returns : goal.returns
returns c = point_went c.args.rows.now (four_at c.args.objects.now c.args.k) c.args.p c.args.mode c.args.marks.now c.walk_tests-a.ensures c.walk_rule-b.ensures c.walk_effects-c.ensures refl refl
