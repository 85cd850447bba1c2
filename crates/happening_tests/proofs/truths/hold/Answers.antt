use mathlib.Core.Path.{sym, ◌∙◌}
use Prim.Native.Nat.{◌-◌}
use native.Mathlib.Omega.{arith}
use lib.ListN.{length}
use Rattle.happening_forms.specs.Summed.{four_at}
use Rattle.happening_state.specs.States.{state_in}
use Rattle.happening_tests.proofs.Walking.{hold_spent, hold_end, hold_fails, hold_turn}
use Rattle.happening_tests.proofs.truths.hold.Goals as goal

pub returns-in_default : goal.returns-in_default
returns-in_default c = hold_end c.args.rows.now (four_at c.args.objects.now c.args.k) (state_in c.args.facts.now c.args.numbers.now) c.loop.i (length c.args.rows.now - c.loop.counter) c.loop.invariant (sym c.test_at.ensures ∙ c.in_default.is)

pub returns-in_default-what : goal.returns-in_default-what
returns-in_default-what c = hold_fails c.args.rows.now (four_at c.args.objects.now c.args.k) (state_in c.args.facts.now c.args.numbers.now) c.loop.i (length c.args.rows.now - c.loop.counter) c.loop.invariant (sym c.test_at.ensures ∙ c.in-Some.is) c.judge-v.ensures (omega arith) c.in_default-what.not-Holds

pub loop-preserved : goal.loop-preserved
loop-preserved c = hold_turn c.args.rows.now (four_at c.args.objects.now c.args.k) (state_in c.args.facts.now c.args.numbers.now) c.loop.i (length c.args.rows.now - c.loop.counter) c.loop.invariant (sym c.test_at.ensures ∙ c.in-Some.is) c.judge-v.ensures (omega arith) c.in-Holds.is

pub returns : goal.returns
returns c = hold_spent c.args.rows.now (four_at c.args.objects.now c.args.k) (state_in c.args.facts.now c.args.numbers.now) c.loop.i (length c.args.rows.now - c.loop.counter) c.loop.invariant (omega arith)
