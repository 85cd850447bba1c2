use mathlib.Core.Path.{ap, ◌∙◌}
use Prim.Native.Nat.{ℕ}
use native.Mathlib.Omega.{arith}
use Rattle.domain_meaning.specs.Indexes.{sum_of}
use Rattle.domain_rows.specs.Layout.{functions_at, variables_at}
use Rattle.domain_terms.proofs.Signatures.{predicates_signed, functions_signed}
use Rattle.domain_load.proofs.sizes_of.Goals as goal

pub sum_of-requires : goal.sum_of-requires
sum_of-requires c = (predicates_signed _ _ _ c.requires.1, omega (arith, c.requires.1.objects.fits))

pub sum_of-requires-2 : goal.sum_of-requires-2
sum_of-requires-2 c = (functions_signed _ _ _ c.requires.1, omega (arith, c.requires.1.objects.fits))

pub returns : goal.returns
returns c = λ x h. let facts = c.sum_of.ensures 32 functions_at x.predicates h.predicates h.facts ∙ ap (λ (n : ℕ). sum_of n x.predicates) h.objects.count in let numbers = c.sum_of-2.ensures 16 variables_at x.functions h.functions h.numbers ∙ ap (λ (n : ℕ). sum_of n x.functions) h.objects.count in λ i. record { facts = facts i; numbers = numbers i }
