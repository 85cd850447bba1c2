use Rattle.happening_forms.specs.Summed.{four_at}
use Rattle.happening_tests.proofs.Rows.{fact_way}
use Rattle.happening_tests.proofs.taken.fact.Goals as goal

pub returns : goal.returns
returns c = fact_way c.args.rows.now (four_at c.args.objects.now c.args.k) c.args.at c.args.w c.args.v c.index-i.ensures
