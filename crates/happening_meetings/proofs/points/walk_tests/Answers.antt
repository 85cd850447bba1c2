use mathlib.Core.Path.{◌≡◌, sym, ◌∙◌}
use Prim.Native.Nat.{◌-◌}
use native.Mathlib.Omega.{arith}
use lib.ListN.{length}
use Rattle.happening_forms.specs.Summed.{four_at}
use Rattle.happening_meetings.proofs.Going.{onward_start}
use Rattle.happening_meetings.proofs.Reading.{tests_over, tests_ended, tests_turn}
use Rattle.happening_meetings.proofs.points.walk_tests.Goals as goal

pub loop-init : goal.loop-init
loop-init c = let e : length c.args.rows.now - 0 ≡ length c.args.rows.now = omega arith in rw e (onward_start _ _ _)

pub returns-in_default : goal.returns-in_default
returns-in_default c = tests_ended c.args.rows.now (four_at c.args.objects.now c.args.k) c.loop.i (length c.args.rows.now - c.loop.counter) c.loop.invariant (sym c.test_at.ensures ∙ c.in_default.is)

pub loop-preserved : goal.loop-preserved
loop-preserved c = tests_turn c.args.rows.now (four_at c.args.objects.now c.args.k) c.loop.i (length c.args.rows.now - c.loop.counter) c.loop.invariant (sym c.test_at.ensures ∙ c.in-Some.is) (omega arith) c.walk_row-v.ensures

pub returns : goal.returns
returns c = tests_over c.args.rows.now (four_at c.args.objects.now c.args.k) c.loop.i (length c.args.rows.now - c.loop.counter) c.loop.invariant (omega arith)
