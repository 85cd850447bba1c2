use mathlib.Core.Path.{sym, ◌∙◌}
use Prim.Native.Nat.{◌-◌}
use native.Mathlib.Omega.{arith}
use lib.ListN.{length}
use Rattle.happening_forms.specs.Summed.{four_at}
use Rattle.happening_tests.proofs.Walking.{mask_spent, mask_end, mask_turn}
use Rattle.happening_tests.proofs.reads.mask_of.Goals as goal

pub returns-in_default : goal.returns-in_default
returns-in_default c = mask_end c.args.rows.now (four_at c.args.objects.now c.args.k) c.loop.m c.loop.i (length c.args.rows.now - c.loop.counter) c.loop.invariant (sym c.test_at.ensures ∙ c.in_default.is)

pub loop-preserved : goal.loop-preserved
loop-preserved c = mask_turn c.args.rows.now (four_at c.args.objects.now c.args.k) c.loop.m c.loop.i (length c.args.rows.now - c.loop.counter) c.loop.invariant (sym c.test_at.ensures ∙ c.in-Some.is) c.row_mask-v.ensures (omega arith)

pub returns : goal.returns
returns c = mask_spent c.args.rows.now (four_at c.args.objects.now c.args.k) c.loop.m c.loop.i (length c.args.rows.now - c.loop.counter) c.loop.invariant (omega arith)
