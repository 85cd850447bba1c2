use Rattle.domain_terms.proofs.Signatures.{predicates_signed, functions_signed}
use Rattle.domain_problem_text.proofs.Judging.{predicates_passed, functions_judged}
use Rattle.domain_rows.specs.Layout.{functions_at, variables_at}
use Rattle.domain_problem_text.proofs.premises.sums_fit.Goals as goal

pub sum_of-requires : goal.sum_of-requires
sum_of-requires c = (predicates_signed _ _ c.requires.0 c.requires.1, c.requires.1.objects.fits)

pub returns-then-sum_of-gt-MOST_FACTS : goal.returns-then-sum_of-gt-MOST_FACTS
returns-then-sum_of-gt-MOST_FACTS c = λ d h. predicates_passed _ _ d h _ (c.sum_of.ensures 32 functions_at d.predicates h.predicates h.facts) c.if-sum_of-gt-MOST_FACTS.true

pub sum_of-requires-2 : goal.sum_of-requires-2
sum_of-requires-2 c = (functions_signed _ _ c.requires.0 c.requires.1, c.requires.1.objects.fits)

pub returns : goal.returns
returns c = λ d h. functions_judged _ _ d h _ (c.sum_of.ensures 32 functions_at d.predicates h.predicates h.facts) c.if-sum_of-gt-MOST_FACTS.false _ (c.sum_of-2.ensures 16 variables_at d.functions h.functions h.numbers)
