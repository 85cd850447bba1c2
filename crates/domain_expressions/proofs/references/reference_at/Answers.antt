use Rattle.domain_expressions.proofs.Referred.{reference_wrote}
use mathlib.Core.Path.{◌∙◌}
use native.Mathlib.Omega.{arith}
use Rattle.domain_terms.proofs.Wanted.{wanted_count, wanted_few}
use Rattle.domain_expressions.proofs.references.reference_at.Goals as goal

pub put-requires : goal.put-requires
put-requires c = let cnt = c.kept_in-arity.ensures.0 c.requires.2.rows c.requires.2.to c.requires.2.table c.requires.2.holds ∙ wanted_count c.requires.2.table c.args.i c.requires.2.signed (omega (arith, c.requires.3, c.requires.2.holds.count)) in let four = wanted_few c.requires.2.table c.args.i c.requires.2.signed (omega (arith, c.requires.3, c.requires.2.holds.count)) in omega (arith, c.requires.4)

pub returns : goal.returns
returns c = (λ x m to t k h g. reference_wrote _ _ _ _ _ _ _ _ _ x t _ (c.kept_in-arity.ensures.0 m to t h ∙ wanted_count t _ g (omega (arith, c.requires.3, h.count))) (rw (c.put-2.ensures, c.put.ensures) at (c.arguments_at.ensures.0 x m to t k h g)), c.arguments_at.ensures.1, c.arguments_at.ensures.2)
