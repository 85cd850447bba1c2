use mathlib.Core.Path.{refl}
use native.Mathlib.Omega.{arith}
use Rattle.std.proofs.lemmas.Result.{err_from_is_err_and}
use Rattle.domain_meaning.specs.Domain.{vocabulary, scope_in}
use Rattle.domain_domain_text.proofs.Ways.{preceded, no_preamble}
use Rattle.domain_domain_text.proofs.domain_at.Goals as goal

pub acting_at-requires : goal.acting_at-requires
acting_at-requires c = let q = preceded (vocabulary _ 0) _ _ _ _ _ _ _ refl c.preamble_at.ensures c.in_ok-at.was in (q.3, omega (arith, q.2), (scope_in q.0, q.1.scope), q.1.long, c.requires.1)

pub returns-in_err-at : goal.returns-in_err-at
returns-in_err-at c = let p = err_from_is_err_and c.from_residual.result c.from_residual.ensures.1 in rw (p.1, p.2) (no_preamble _ _ _ _ _ _ _ _ _ _ c.preamble_at.ensures c.in_err-at.was)

pub returns : goal.returns
returns c = let q = preceded (vocabulary _ 0) _ _ _ _ _ _ _ refl c.preamble_at.ensures c.in_ok-at.was in c.acting_at.ensures q.0 q.1
