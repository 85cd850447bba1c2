use Rattle.std.proofs.lemmas.Result.{err_from_is_err_and}
use mathlib.Core.Path.{refl}
use native.Mathlib.Omega.{arith}
use Rattle.domain_due.specs.Answers.{Ahead}
use Rattle.domain_due.proofs.Dues.{ahead_done, ahead_refused}
use Rattle.domain_rows.specs.Held.{rows_of}
use Rattle.domain_meaning.specs.Indexes.{padded}
use Rattle.domain_typed_lists.proofs.Outcomes.{outcome_done, outcome_refused}
use Rattle.domain_typed_lists.proofs.Declaring.{signs_refused, signs_done}
use Rattle.domain_actions.proofs.Owning.{types_held, types_stand, owned, unowned}
use Rattle.domain_actions.proofs.headers.parameters_to.Goals as goal

pub variables_to-requires : goal.variables_to-requires
unfolding rows_of padded
variables_to-requires c = (c.requires.0, types_stand _ _ _ c.part_of-types.ensures c.requires.1, refl, omega arith)

pub returns-in_err-after : goal.returns-in_err-after
returns-in_err-after c = let p = err_from_is_err_and c.from_residual.result c.from_residual.ensures.1 in rw (p.1, p.2, ← c.in_err-after.was) ((λ sc i. let e = outcome_refused _ 4 _ _ _ _ (c.variables_to.ensures.0 sc.types (types_held _ _ _ sc c.part_of-types.ensures i)) c.in_err-after.was in (signs_refused _ _ _ _ _ _ _ e c.in_err-after.was, unowned sc _ _ _ _ _ e), ahead_refused _ _ _ _ _ c.in_err-after.was))

pub signature-requires : goal.signature-requires
signature-requires c = let x = outcome_done _ 4 _ _ _ _ (c.variables_to.ensures.0 c.requires.1.0.types (types_held _ _ _ c.requires.1.0 c.part_of-types.ensures c.requires.1.1)) c.in_ok-after.was in ((x.table, x.holds), omega (arith, x.holds.fits, c.requires.4), omega (arith, x.holds.fits))

pub returns : goal.returns
unfolding Ahead
returns c = (λ sc i. let x = outcome_done _ 4 _ _ _ _ (c.variables_to.ensures.0 sc.types (types_held _ _ _ sc c.part_of-types.ensures i)) c.in_ok-after.was in (signs_done 4 _ _ _ _ _ _ x (c.signature.ensures x.table x.holds), owned _ _ _ _ _ _ sc i c.requires.2 c.requires.3 _ _ _ x c.copy.ensures c.copy-2.ensures), ahead_done _ _ _ _ _ c.in_ok-after.was c.variables_to.ensures.1)
