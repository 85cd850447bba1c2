use Rattle.happening_forms.specs.Summed.{summed}
use Rattle.happening_placing.specs.Given.{points_in}
use Rattle.happening_steps.proofs.Happens.{happen_refused, happen_fails, happen_leaves, happen_done, happen_back, happen_forth}
use Rattle.happening_steps.proofs.happen.Goals as goal

pub returns-in_default : goal.returns-in_default
returns-in_default c = (happen_refused summed c.args.facts.now c.args.numbers.now c.args.fresh.now (points_in c.args.rows.now c.args.points.now c.args.objects.now c.args.n 0) c.requires.3 c.allow-o.ensures.0 c.in_default.not-Done, c.requires.3, c.allow-o.ensures.1)

pub returns-in_default-c : goal.returns-in_default-c
returns-in_default-c c = (happen_fails summed c.args.facts.now c.args.numbers.now c.args.fresh.now (points_in c.args.rows.now c.args.points.now c.args.objects.now c.args.n 0) c.requires.3 c.allow-o.ensures.0 c.in-Done.is c.change_points-c.ensures c.in_default-c.not-Done, happen_back summed c.args.facts.now c.args.numbers.now c.args.fresh.now (points_in c.args.rows.now c.args.points.now c.args.objects.now c.args.n 0) c.requires.3 c.allow-o.ensures.0 c.in-Done.is c.change_points-c.ensures c.settle_points.ensures, c.allow-o.ensures.1)

pub returns-in_default-s : goal.returns-in_default-s
returns-in_default-s c = (happen_leaves summed c.args.facts.now c.args.numbers.now c.args.fresh.now (points_in c.args.rows.now c.args.points.now c.args.objects.now c.args.n 0) c.requires.3 c.allow-o.ensures.0 c.in-Done.is c.change_points-c.ensures c.in-Done-c.is c.stay_all-s.ensures c.in_default-s.not-Done, happen_back summed c.args.facts.now c.args.numbers.now c.args.fresh.now (points_in c.args.rows.now c.args.points.now c.args.objects.now c.args.n 0) c.requires.3 c.allow-o.ensures.0 c.in-Done.is c.change_points-c.ensures c.settle_points-in_default-s.ensures, c.allow-o.ensures.1)

pub returns : goal.returns
returns c = (happen_done summed c.args.facts.now c.args.numbers.now c.args.fresh.now (points_in c.args.rows.now c.args.points.now c.args.objects.now c.args.n 0) c.requires.3 c.allow-o.ensures.0 c.in-Done.is c.change_points-c.ensures c.in-Done-c.is c.stay_all-s.ensures c.in-Done-s.is c.renew_facts.ensures c.settle_points-2.ensures, happen_forth summed c.args.facts.now c.args.numbers.now c.args.fresh.now (points_in c.args.rows.now c.args.points.now c.args.objects.now c.args.n 0) c.requires.3 c.allow-o.ensures.0 c.in-Done.is c.change_points-c.ensures c.settle_points-2.ensures, c.allow-o.ensures.1)
