use mathlib.Core.Path.{sym, ◌∙◌}
use Prim.Native.Nat.{◌-◌}
use native.Mathlib.Omega.{arith}
use lib.ListN.{length}
use Rattle.happening_forms.specs.Summed.{four_at}
use Rattle.happening_tests.proofs.Walking.{read_spent, read_end, read_found, read_turn}
use Rattle.happening_tests.proofs.reads.read.Goals as goal

pub returns-in_default : goal.returns-in_default
returns-in_default c = read_end c.args.rows.now (four_at c.args.objects.now c.args.k) c.args.numeric c.args.x c.loop.i (length c.args.rows.now - c.loop.counter) c.loop.invariant (sym c.test_at.ensures ∙ c.in_default.is)

pub returns-then-v : goal.returns-then-v
returns-then-v c = read_found c.args.rows.now (four_at c.args.objects.now c.args.k) c.args.numeric c.args.x c.loop.i (length c.args.rows.now - c.loop.counter) c.loop.invariant (sym c.test_at.ensures ∙ c.in-Some.is) c.row_reads-v.ensures (omega arith) c.if-v.true

pub loop-preserved : goal.loop-preserved
loop-preserved c = read_turn c.args.rows.now (four_at c.args.objects.now c.args.k) c.args.numeric c.args.x c.loop.i (length c.args.rows.now - c.loop.counter) c.loop.invariant (sym c.test_at.ensures ∙ c.in-Some.is) c.row_reads-v.ensures (omega arith) c.if-v.false

pub returns : goal.returns
returns c = read_spent c.args.rows.now (four_at c.args.objects.now c.args.k) c.args.numeric c.args.x c.loop.i (length c.args.rows.now - c.loop.counter) c.loop.invariant (omega arith)
