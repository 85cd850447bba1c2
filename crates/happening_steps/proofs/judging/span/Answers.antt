use Rattle.happening_state.specs.States.{state_in}
use Rattle.happening_steps.proofs.Spanned.{spans_by}
use Rattle.happening_steps.proofs.judging.span.Goals as goal

pub returns : goal.returns
returns c = λ d. spans_by c.args.rows.now c.args.objects.now c.args.k c.args.line c.args.action d c.during-from.ensures (state_in c.args.facts.now c.args.numbers.now) c.hold-t.ensures c.judge.ensures
