use mathlib.Core.Path.{refl, sym, ◌∙◌}
use borrow.Author.Rules.{rules}
use Rattle.domain_holding.proofs.Storing.{on_byte, on_end_lem}
use Rattle.domain_holding.proofs.take.Goals as goal

pub loop-b-init : goal.loop-b-init
loop-b-init c = (refl, refl)

pub loop-b-preserved : goal.loop-b-preserved
loop-b-preserved c = (search rules, rw (c.take_byte-kept.ensures, c.loop-b.invariant.0) (sym (on_byte _ _ _ _ c.loop-b-test.true) ∙ c.loop-b.invariant.1))

pub shape_of-block : goal.shape_of-block
shape_of-block c = c.loop-b.invariant.0

pub returns : goal.returns
returns c = sym (on_end_lem _ _ _ _ c.loop-b-test.false) ∙ c.loop-b.invariant.1
