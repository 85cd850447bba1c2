use mathlib.Core.Path.{refl, sym, ◌∙◌}
use native.Mathlib.Omega.{arith}
use Rattle.domain_terms.proofs.Givens.{cell_done, cell_refused, name_found, name_missing}
use Rattle.domain_terms.proofs.Kept.{found_below}
use Rattle.domain_terms.proofs.arguments.object_at.Goals as goal

pub returns-in_default : goal.returns-in_default
returns-in_default c = (λ s x q h. name_missing s x _ _ (sym (rw q at (c.find_in.ensures _ x.objects h.objects)) ∙ c.in_default.is), cell_refused 8 c.args.p _ refl)

pub returns : goal.returns
returns c = (λ s x q h. name_found s x _ _ c.in-Some.i (sym (rw q at (c.find_in.ensures _ x.objects h.objects)) ∙ c.in-Some.is), let h = c.requires.1 in let x = c.requires.0 in cell_done _ c.in-Some.i (omega (arith, found_below x.objects _ c.in-Some.i (sym (c.find_in.ensures _ x.objects h.objects) ∙ c.in-Some.is), h.objects.fits, h.objects.count)))
