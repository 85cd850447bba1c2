use mathlib.Core.Path.{refl}
use Rattle.happening_forms.specs.Summed.{four_at}
use Rattle.happening_meetings.proofs.Reading.{row_fact, row_same, row_compare}
use Rattle.happening_meetings.proofs.points.walk_row.Goals as goal

pub returns-in-Fact : goal.returns-in-Fact
returns-in-Fact c = row_fact c.args.rows.now (four_at c.args.objects.now c.args.k) c.args.mode c.args.marks.now _ c.in-Fact.is c.fact_cell.ensures.0 c.touch.ensures.0 c.touch.ensures.1

pub returns-in-Same : goal.returns-in-Same
returns-in-Same c = row_same c.args.rows.now (four_at c.args.objects.now c.args.k) c.args.mode c.args.marks.now _ c.in-Same.is

pub returns-in-Compare : goal.returns-in-Compare
returns-in-Compare c = row_compare c.args.rows.now (four_at c.args.objects.now c.args.k) c.args.mode c.args.marks.now _ c.in-Compare.is c.walk_expr-a.ensures c.walk_expr-b.ensures refl
