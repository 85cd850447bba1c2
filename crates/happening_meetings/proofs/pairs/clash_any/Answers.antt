use mathlib.Core.Path.{◌∙◌, ap}
use mathlib.Core.List.{List}
use Rattle.std.proofs.Common.{rules}
use Rattle.happening_meaning.specs.Writes.{some, against}
use Rattle.happening_meaning.specs.Happening.{marks}
use Rattle.happening_meaning.specs.declared.Mark.{Mark}
use Rattle.happening_forms.specs.Summed.{summed, four_at}
use Rattle.happening_placing.specs.Given.{point_in}
use Rattle.happening_writes.specs.Rows.{marks_at}
use Rattle.happening_writes.proofs.Walking.{any_some}
use Rattle.happening_meetings.proofs.Crossing.{marks_here}
use Rattle.happening_meetings.proofs.pairs.clash_any.Goals as goal

pub returns : goal.returns
returns c =
    any_some (λ m. some (against m) (marks_at c.args.rows.now (four_at c.args.objects.now c.args.j) c.point_at-q.result.effects)) c.new.result c.any.new.self _
    c.any.ensures.ran (c.new.ensures ∙ marks_here c.args.rows.now c.args.points.now c.args.objects.now c.args.i c.point_at-p.ensures) (λ m b q k. search rules)
    ∙ ap (λ (ms : List Mark). some (λ m. some (against m) ms) (marks summed (point_in c.args.rows.now c.args.points.now c.args.objects.now c.args.i)))
    (marks_here c.args.rows.now c.args.points.now c.args.objects.now c.args.j c.point_at-q.ensures)
