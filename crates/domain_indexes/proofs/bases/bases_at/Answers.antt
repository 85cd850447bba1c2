use mathlib.Core.Path.{refl, sym, ◌∙◌}
use Prim.Native.Nat.{◌-◌}
use native.Mathlib.Omega.{arith}
use lib.ListN.{length-set}
use Rattle.domain_indexes.proofs.Sums.{first_low}
use Rattle.domain_indexes.proofs.Places.{bases_start, bases_step, bases_end}
use Rattle.domain_indexes.proofs.bases.bases_at.Goals as goal

pub loop-i-init : goal.loop-i-init
loop-i-init c = (omega arith, refl, λ m to t h g. bases_start c.args.out.now c.args.at c.args.n t)

pub first_of-first-requires : goal.first_of-first-requires
first_of-first-requires c = (c.requires.0.0, c.requires.1, omega arith)

pub overflow_cast-out : goal.overflow_cast-out
overflow_cast-out c = let s = c.requires.0.0 in omega (arith, c.requires.0.1, c.first_of-first.ensures.0 s.rows s.to s.table s.holds s.signed, first_low c.args.n s.table c.loop-i.i (omega (arith, s.holds.count)))

pub overflow_add-out : goal.overflow_add-out
overflow_add-out c = omega (arith, c.loop-i-test.true, c.requires.2)

pub bounds-out-at : goal.bounds-out-at
bounds-out-at c = omega (arith, c.loop-i-test.true, c.requires.2, c.loop-i.invariant.1)

pub overflow_add-i : goal.overflow_add-i
overflow_add-i c = omega (arith, c.requires.0.0.few)

pub loop-i-preserved : goal.loop-i-preserved
loop-i-preserved c = (omega arith, simp length-set c.loop-i.invariant.1, λ m to t h g. bases_step c.loop-i.out c.args.at c.args.n t c.loop-i.i _ (omega (arith, h.count, c.loop-i-test.true)) (c.first_of-first.ensures.0 m to t h g) ∙ c.loop-i.invariant.2 m to t h g)

pub returns : goal.returns
returns c = λ m to t h g. sym (bases_end c.loop-i.out c.args.at c.args.n t c.loop-i.i (omega (arith, h.count, c.loop-i-test.false))) ∙ c.loop-i.invariant.2 m to t h g
