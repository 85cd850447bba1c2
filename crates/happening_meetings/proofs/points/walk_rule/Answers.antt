use Rattle.domain_prepared_meaning.specs.Decode.{expression_at}
use Rattle.happening_forms.specs.Summed.{four_at}
use Rattle.happening_meetings.proofs.Reading.{rule_unwalked, rule_walked}
use Rattle.happening_meetings.proofs.points.walk_rule.Goals as goal

pub returns-in_default : goal.returns-in_default
returns-in_default c = rule_unwalked (four_at c.args.objects.now c.args.k) c.args.mode c.args.marks.now c.in_default.ensures

pub returns : goal.returns
returns c = rule_walked (four_at c.args.objects.now c.args.k) c.args.mode c.args.marks.now (expression_at c.args.rows.now c.in-Some.at) c.in-Some.ensures c.walk_expr-e.ensures
