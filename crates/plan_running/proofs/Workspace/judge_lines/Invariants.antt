use mathlib.Core.Path.{◌≡◌}
use Rattle.happening_state.specs.States.{state_in}
use Rattle.plan_running.proofs.Judging.{Judging}
use Rattle.plan_running.proofs.Workspace.judge_lines.Given as goal

abbrev pub invariant-loop-i : goal.invariant-loop-i
invariant-loop-i l = let w = l.initial.self in
    (l.self ≡ record w { watches = l.self.watches }) × Judging l.rows w.words w.objects w.count l.t (state_in l.facts l.numbers) w.watches l.self.watches l.i
