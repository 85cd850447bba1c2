use mathlib.Core.Path.{◌∙◌}
use Rattle.std.proofs.Common.{rules}
use Rattle.happening_meaning.specs.Happening as Happens
use Rattle.happening_forms.specs.Summed.{summed}
use Rattle.happening_placing.specs.Given.{point_in}
use Rattle.happening_writes.proofs.Walking.{any_some}
use Rattle.happening_meetings.proofs.Crossing.{marks_here}
use Rattle.happening_meetings.proofs.pairs.reads_any.Goals as goal

pub returns : goal.returns
returns c =
    any_some (Happens.reads summed (point_in c.args.rows.now c.args.points.now c.args.objects.now c.args.i)) c.new.result c.any.new.self _ c.any.ensures.ran
    (c.new.ensures ∙ marks_here c.args.rows.now c.args.points.now c.args.objects.now c.args.j c.point_at-q.ensures) (λ m b q k. search rules)
