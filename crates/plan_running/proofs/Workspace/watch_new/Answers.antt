use mathlib.Core.Path.{refl, ap, ◌∙◌}
use borrow.Author.Tests.{le-ltb}
use lib.ListN.{set}
use Rattle.happening_forms.specs.Summed.{summed}
use Rattle.happening_steps.specs.Watching.{watching}
use Rattle.plan_waiting.specs.Lent.{slot_in}
use Rattle.plan_running.proofs.Judging.{line_on}
use Rattle.plan_running.proofs.Workspace.watch_new.Goals as goal

pub returns-then-held-start_at : goal.returns-then-held-start_at
returns-then-held-start_at c = let w = c.args.self.now in
    let p = c.args.p in
    let x = (slot_in w.words w.objects p).step in
    let mask = c.watched.ensures x.line x.duration ∙ ap (watching summed) (line_on c.args.rows.now w.words w.objects p refl (c.action_at-action.ensures w.objects)) in
    rw (← c.start_at.ensures w.objects, le-ltb c.start_at.result c.args.held c.if-held-start_at.true) (ap (λ (v : _). record w { watches = set w.watches p v }) mask)
