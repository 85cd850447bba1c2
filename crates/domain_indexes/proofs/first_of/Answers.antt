use mathlib.Core.Path.{◌≡◌, sym, ◌∙◌}
use Prim.Native.Nat.{◌-◌}
use native.Mathlib.Omega.{arith}
use Rattle.domain_terms.proofs.Wanted.{wanted_count, wanted_few}
use Rattle.domain_indexes.proofs.Sums.{first_zero, first_next}
use Rattle.domain_indexes.proofs.first_of.Goals as goal

pub loop-j-init : goal.loop-j-init
loop-j-init c = (omega arith, omega arith, λ m to t h g. sym (first_zero _ t))

pub kept_in-requires : goal.kept_in-requires
kept_in-requires c = (c.requires.0.few, c.requires.0.near, omega arith)

pub power-sum-requires : goal.power-sum-requires
power-sum-requires c = (c.requires.1, omega (arith, (c.kept_in.ensures.0 c.requires.0.rows c.requires.0.to c.requires.0.table c.requires.0.holds ∙ wanted_count c.requires.0.table c.loop-j.j c.requires.0.signed (omega (arith, c.requires.0.holds.count))), wanted_few c.requires.0.table c.loop-j.j c.requires.0.signed (omega (arith, c.requires.0.holds.count))))

pub overflow_add-sum : goal.overflow_add-sum
overflow_add-sum c = omega (arith, c.loop-j.invariant.1, c.power-sum.ensures.1, c.requires.0.few)

pub loop-j-preserved : goal.loop-j-preserved
loop-j-preserved c = (omega arith, omega (arith, c.loop-j.invariant.1, c.power-sum.ensures.1), λ m to t h g. rw (c.loop-j.invariant.2 m to t h g, c.power-sum.ensures.0, c.kept_in.ensures.0 m to t h) (sym (first_next _ t _ (omega (arith, h.count)))))

pub returns : goal.returns
returns c = let e : c.loop-j.j ≡ c.args.i = omega arith in (λ m to t h g. c.loop-j.invariant.2 m to t h g ∙ rw e, omega (arith, c.loop-j.invariant.1, c.requires.0.few))
