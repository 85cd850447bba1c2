use mathlib.Core.Path.{refl, sym, ap, ◌∙◌}
use native.Mathlib.Omega.{arith}
use Rattle.domain_due.specs.Answers.{answer_of}
use Rattle.domain_due.proofs.Dues.{ahead_refused}
use Rattle.domain_terms.proofs.Kept.{found_below}
use Rattle.domain_init.proofs.Indexed.{ground_missing, ground_found}
use Rattle.domain_init.proofs.Ways.{listed_signed}
use Rattle.domain_init.proofs.grounds.ground_at.Goals as goal

pub returns-in_default : goal.returns-in_default
returns-in_default c = (λ x m t k o h g. ground_missing _ _ x t _ _ (sym (rw c.part_of.ensures at (c.find_in-f.ensures m t h)) ∙ c.in_default.is), ahead_refused _ _ 8 _ _ refl)

pub index_at-requires : goal.index_at-requires
index_at-requires c = let g = c.requires.2 in (c.requires.0, c.requires.1, listed_signed _ _ _ _ g, omega (arith, found_below g.table _ _ (sym (rw c.part_of.ensures at (c.find_in-f.ensures g.rows g.table g.holds)) ∙ c.in-Some.is), g.holds.count))

pub returns : goal.returns
returns c = (λ x m t k o h g. c.index_at.ensures.0 x m _ t k o h g ∙ sym (ap answer_of (ground_found _ _ x t _ _ _ (sym (rw c.part_of.ensures at (c.find_in-f.ensures m t h)) ∙ c.in-Some.is))), c.index_at.ensures.1)
