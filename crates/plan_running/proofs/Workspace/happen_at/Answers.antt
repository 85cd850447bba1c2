use mathlib.Core.Path.{sym}
use Rattle.domain_prepared_meaning.specs.Decode.{actions_at}
use Rattle.happening_forms.specs.Summed.{summed}
use Rattle.happening_state.specs.States.{state_in}
use Rattle.plan_meaning.specs.Plan.{at}
use Rattle.plan_meaning.specs.Machine.{under_way}
use Rattle.plan_waiting.specs.Waiting.{used, waiting}
use Rattle.plan_running.specs.Running.{queue_held}
use Rattle.plan_running.proofs.Fuel.{some_at}
use Rattle.plan_running.proofs.Instant.{instant_run}
use Rattle.plan_running.proofs.Underway.{points_are, lines_are}
use Rattle.plan_running.proofs.Workspace.happen_at.Goals as goal

pub returns : goal.returns
returns c = let a = c.args in let r = a.rows.now in let q = queue_held a.self.now in
    let next = c.requires.1 in
    let some = some_at a.t next.0 (waiting q) next.1 next.2 in
    let done = c.happen_now-outcome.ensures in
    (λ goal es s sound few. instant_run summed goal (actions_at r 0 es) s a.t (at a.t (waiting q)) (under_way a.t (waiting q)) some a.past (state_in a.facts.now a.numbers.now) c.in-Done.is done.0 (sym (points_are r es few a.t (used q) sound.1)) (sym (lines_are r es few a.t (used q) sound.1)), done.1)
