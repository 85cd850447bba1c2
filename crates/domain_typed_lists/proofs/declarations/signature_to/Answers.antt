use mathlib.Core.Path.{refl}
use native.Mathlib.Omega.{arith}
use Rattle.std.proofs.lemmas.Result.{err_from_is_err_and}
use Rattle.domain_due.specs.Answers.{Ahead}
use Rattle.domain_due.proofs.Dues.{ahead_done, ahead_refused}
use Rattle.domain_typed_lists.proofs.Outcomes.{outcome_done, outcome_refused}
use Rattle.domain_typed_lists.proofs.Declaring.{signs_refused, signs_done}
use Rattle.domain_typed_lists.proofs.declarations.signature_to.Goals as goal

pub returns-in_err-after : goal.returns-in_err-after
returns-in_err-after c = let p = err_from_is_err_and c.from_residual.result c.from_residual.ensures.1 in rw (p.1, p.2) (λ ts i. signs_refused _ _ _ _ _ _ _ (outcome_refused _ _ _ _ _ _ (c.variables_to.ensures.0 ts i) c.in_err-after.was) refl, ahead_refused _ _ _ _ _ refl)

pub signature-requires : goal.signature-requires
signature-requires c = let x = (outcome_done _ _ _ _ _ _ (c.variables_to.ensures.0 c.requires.1.0 c.requires.1.1) c.in_ok-after.was) in ((x.table, x.holds), omega (arith, x.holds.fits), omega (arith, x.holds.fits))

pub returns : goal.returns
unfolding Ahead
returns c = (λ ts i. let x = (outcome_done _ _ _ _ _ _ (c.variables_to.ensures.0 ts i) c.in_ok-after.was) in signs_done _ _ _ _ _ _ _ x (c.signature.ensures x.table x.holds), ahead_done _ _ _ _ _ c.in_ok-after.was c.variables_to.ensures.1)
