use Rattle.std.proofs.lemmas.Result.{err_from_is_err_and}
use mathlib.Core.Path.{refl, sym, ap, ◌∙◌}
use Rattle.domain_init.proofs.Indexed.{stored_refused, behind_refused, behind_done, cells_room}
use native.Mathlib.Omega.{arith}
use Rattle.domain_due.specs.Answers.{answer_of}
use Rattle.domain_due.proofs.Dues.{ahead_done, ahead_refused, ahead_by}
use Rattle.domain_terms.proofs.Wanted.{wanted_few}
use Rattle.domain_init.proofs.grounds.index_at.Goals as goal

pub returns-in_err-after : goal.returns-in_err-after
returns-in_err-after c = let p = err_from_is_err_and c.from_residual.result c.from_residual.ensures.1 in rw (p.1, p.2, ← c.in_err-after.was) ((λ x m to t k o h g. c.in_err-after.was ∙ sym (ap answer_of (behind_refused _ _ x t _ _ _ _ (stored_refused _ _ _ _ _ _ (c.arguments_at.ensures.0 x m to t k h g) c.in_err-after.was))), ahead_refused _ _ _ _ _ c.in_err-after.was))

pub numeral_of-low-requires : goal.numeral_of-low-requires
numeral_of-low-requires c = let x = c.requires.1.0 in let k = c.requires.1.1 in let g = c.requires.2 in let few = wanted_few g.table c.args.i g.signed (omega (arith, c.requires.3, g.holds.count)) in let v = cells_room c.args.text.now c.args.d x g.table c.args.i c.args.from _ c.arguments_at.result _ _ _ refl few (c.arguments_at.ensures.0 x g.rows g.to g.table k g.holds g.signed) c.in_ok-after.was in (v.0, v.1, omega (arith, k.objects.fits))

pub first_of-requires : goal.first_of-requires
first_of-requires c = (c.requires.2, omega (arith, c.requires.1.1.objects.fits), omega (arith, c.requires.3))

pub overflow_add-result : goal.overflow_add-result
overflow_add-result c = omega (arith, c.numeral_of-low.ensures.1, c.first_of.ensures.1)

pub returns : goal.returns
returns c = (λ x m to t k o h g. let few = wanted_few t c.args.i g (omega (arith, c.requires.3, h.count)) in behind_done c.args.text.now c.args.d x t c.args.i c.args.from o _ c.arguments_at.result _ _ _ c.args.counts.objects c.first_of.result c.numeral_of-low.result refl few (omega (arith, c.requires.3, h.count)) (c.arguments_at.ensures.0 x m to t k h g) c.in_ok-after.was k.objects.count (c.first_of.ensures.0 m to t h g) c.numeral_of-low.ensures.0, let w = ahead_done _ _ _ _ _ c.in_ok-after.was c.arguments_at.ensures.1 in ahead_by _ _ _ _ w.0 w.1)
