use Rattle.std.proofs.lemmas.Result.{err_from_is_err_and}
use Rattle.domain_due.proofs.Dues.{ahead_done, ahead_refused, ahead_by}
use Rattle.domain_init.proofs.Ways.{predicates_listed, fact_refused, fact_done}
use Rattle.domain_init.proofs.entries.fact_at.Goals as goal

pub ground_at-requires : goal.ground_at-requires
ground_at-requires c = (c.requires.0, c.requires.1, predicates_listed _ _ c.requires.1.0 c.requires.1.1)

pub returns-in_err-after : goal.returns-in_err-after
returns-in_err-after c = let p = err_from_is_err_and c.from_residual.result c.from_residual.ensures.1 in rw (p.1, p.2, ← c.in_err-after.was) ((λ x y ns k o st. fact_refused _ x y _ _ _ (c.ground_at.ensures.0 x 32 x.predicates k o k.predicates k.facts) _ ns _ _ c.in_err-after.was, ahead_refused _ _ _ _ _ c.in_err-after.was))

pub returns : goal.returns
returns c = (λ x y ns k o st. fact_done _ x y _ _ _ (c.ground_at.ensures.0 x 32 x.predicates k o k.predicates k.facts) _ _ ns _ _ c.in_ok-after.was c.put.ensures st, let w = ahead_done _ _ _ _ _ c.in_ok-after.was c.ground_at.ensures.1 in ahead_by _ _ _ _ w.0 w.1)
