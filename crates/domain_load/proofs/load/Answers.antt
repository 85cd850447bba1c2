use mathlib.Core.Path.{refl}
use Rattle.domain_rows.specs.Held.{rows_of}
use Rattle.domain_meaning.specs.Indexes.{padded}
use Rattle.domain_load.proofs.Loading.{understood, no_domain, domain_loaded}
use Rattle.domain_load.proofs.load.Goals as goal

pub domain_at-d-requires : goal.domain_at-d-requires
unfolding rows_of padded
domain_at-d-requires c = (refl, refl)

pub load_problem-requires : goal.load_problem-requires
load_problem-requires c = let u = understood c.args.domain.now c.domain_at-d.result _ _ _ _ c.domain_at-d.ensures _ _ _ _ c.in-Ok.is _ c.part_of-name.ensures in (u.domain, u.model)

pub returns-in-Err : goal.returns-in-Err
returns-in-Err c = no_domain c.args.domain.now c.domain_at-d.result _ _ _ _ c.domain_at-d.ensures c.args.problem.now _ _ _ c.in-Err.is c.fixed.ensures

pub returns : goal.returns
returns c = let u = understood c.args.domain.now c.domain_at-d.result _ _ _ _ c.domain_at-d.ensures _ _ _ _ c.in-Ok.is _ c.part_of-name.ensures in domain_loaded c.args.domain.now c.args.problem.now u.domain u.end u.is _ (c.load_problem.ensures u.domain u.model)
