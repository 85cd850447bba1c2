use mathlib.Core.Path.{ap, ◌∙◌}
use mathlib.Core.List.{List}
use Prim.Native.Nat.{ℕ, ◌+◌, ◌≤◌}
use native.Mathlib.Omega.{arith}
use lib.ListN.{set}
use lib.Seq.{sets}
use Rattle.domain_meaning.specs.Indexes.{bases_of}
use Rattle.domain_indexes.specs.Firsts.{firsts_of}
use Rattle.domain_load.proofs.Laying.{firsts_laid, facts_low, numbers_low, room}
use Rattle.domain_rows.specs.Layout.{functions_at, variables_at}
use Rattle.domain_load.proofs.firsts_of.Goals as goal

pub bases_at-requires : goal.bases_at-requires
bases_at-requires c = let s = c.requires in (facts_low _ _ s.0 s.1 s.2, omega (arith, s.1.objects.fits), let z : 0 + c.args.counts.predicates ≤ 49 = omega (arith, s.1.predicates.fits) in z)

pub bases_at-requires-2 : goal.bases_at-requires-2
bases_at-requires-2 c = let s = c.requires in (numbers_low _ _ s.0 s.1 s.2, omega (arith, s.1.objects.fits), rw (c.bases_at.ensures 32 functions_at s.0.predicates s.1.predicates s.1.facts) (room c.args.counts.objects s.0.predicates _ s.1.functions.fits))

pub returns : goal.returns
returns c = λ x h. ap (λ (l : List ℕ). set l 48 c.args.counts.objects) (c.bases_at-2.ensures 16 variables_at x.functions h.functions h.numbers ∙ ap (λ (l : List ℕ). sets l 32 (bases_of c.args.counts.objects x.functions)) (c.bases_at.ensures 32 functions_at x.predicates h.predicates h.facts)) ∙ firsts_laid c.args.counts.objects x.predicates x.functions (omega (arith, h.predicates.count, h.predicates.fits)) (omega (arith, h.functions.count, h.functions.fits)) ∙ ap (λ (n : ℕ). firsts_of n x.predicates x.functions) h.objects.count
