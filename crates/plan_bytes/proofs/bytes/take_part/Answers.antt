use Rattle.happening_state.specs.States.{state_in}
use Rattle.plan_running.specs.Running.{queue_held}
use Rattle.plan_feeding.proofs.Alike.{check_alike, fit_alike, made_alike, made_fit}
use Rattle.plan_bytes.proofs.bytes.take_part.Goals as goal

pub new-work-requires : goal.new-work-requires
new-work-requires c = (c.args.acting, c.requires.2.0)

pub take_bytes-next-requires : goal.take_bytes-next-requires
take_bytes-next-requires c = let a = c.args in let new = c.new-work in (
  c.requires.0,
  c.requires.1,
  fit_alike a.queue (queue_held new.result) new.ensures.0 a.acting a.progress new.ensures.1 c.requires.2,
  c.requires.3,
  c.requires.4,
  c.requires.5,
  new.ensures.2 a.rows.now a.facts.now a.numbers.now a.fresh.now c.requires.6,
)

pub returns : goal.returns
returns c = let a = c.args in let new = c.new-work in let taken = c.take_bytes-next in let left = queue_held taken.new.work in
    let same = made_alike left c.queue.result taken.ensures.1.0.0 c.queue.ensures in (
      λ g s. rw (
        check_alike left c.queue.result same (state_in taken.new.facts taken.new.numbers) taken.result,
        ← check_alike a.queue (queue_held new.result) new.ensures.0 (state_in a.facts.now a.numbers.now) a.progress,
      ) (taken.ensures.0 g s),
      made_fit left c.queue.result taken.ensures.1.0.0 c.queue.ensures a.acting taken.result taken.ensures.1,
      taken.ensures.2,
    )
