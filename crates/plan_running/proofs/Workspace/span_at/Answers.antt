use mathlib.Core.Path.{ap, ◌∙◌}
use Rattle.happening_meaning.specs.Happening.{spans}
use Rattle.happening_forms.specs.Summed.{summed}
use Rattle.happening_state.specs.States.{state_in}
use Rattle.plan_waiting.specs.Lent.{slot_in}
use Rattle.plan_running.proofs.Judging.{line_on}
use Rattle.plan_running.proofs.Workspace.span_at.Goals as goal

pub returns : goal.returns
returns c = let w = c.args.self.now in
    c.span.ensures (slot_in w.words w.objects c.args.p).step.duration
    ∙ ap (spans summed (state_in c.args.facts.now c.args.numbers.now)) (line_on c.args.rows.now w.words w.objects c.args.p (c.line_at-line.ensures w.objects) (c.action_at-action.ensures w.objects))
