use Prim.Native.Nat.{◌+◌, suc, max}
use mathlib.Core.Path.{◌≡◌}
use native.Mathlib.Omega.{arith}
use Rattle.domain_prepared_meaning.specs.Decode.{goal_at}
use Rattle.happening_state.specs.States.{state_in}
use Rattle.plan_meaning.specs.Plan.{latest}
use Rattle.plan_waiting.specs.Waiting.{waiting}
use Rattle.plan_running.specs.Running.{rules_in, queue_held}
use Rattle.plan_feeding.proofs.Ending.{ran_out}
use Rattle.plan_feeding.proofs.stepping.end_run.Goals as goal

pub returns : goal.returns
returns c = let a = c.args in let w = a.work.now in let drained = c.drain_below-past in let left = drained.new.self in
    let g = goal_at a.goal.now in
    let b : 1 + c.max-b.result ≡ suc (max a.p.start (latest (waiting (queue_held w)))) = omega (arith, c.max-b.ensures, c.last.ensures.0 w.objects) in
    λ es s h k. ran_out (rules_in a.rows.now g es s) (state_in a.facts.now a.numbers.now) (state_in drained.new.facts drained.new.numbers) (queue_held w) a.p drained.result
    c.judge.result (waiting (queue_held left)) (1 + c.max-b.result) b (drained.ensures.0 g es s h k)
    (c.judge.ensures a.rows.now es s)
