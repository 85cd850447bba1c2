use native.Mathlib.Omega.{arith}
use lib.ListN.{take}
use lib.Seq.{length-take-le}
use Rattle.domain_prepared_meaning.specs.Decode.{goal_at}
use Rattle.domain_stored_meaning.specs.Entries.{signed_in}
use Rattle.happening_state.specs.States.{state_in}
use Rattle.plan_meaning.specs.Lines.{reader}
use Rattle.plan_lines.specs.Knowing.{known_in}
use Rattle.plan_running.specs.Running.{rules_in, queue_held}
use Rattle.plan_lines.proofs.Names.{signed_length}
use Rattle.plan_feeding.proofs.Alike.{check_alike, fit_alike}
use Rattle.plan_feeding.proofs.Ending.{closed_refused, closed_run}
use Rattle.plan_feeding.proofs.stepping.end_plan.Goals as goal

pub new-work-requires : goal.new-work-requires
new-work-requires c = (c.args.acting, c.requires.2.0)

pub take_line-last-requires : goal.take_line-last-requires
take_line-last-requires c = let a = c.args in let new = c.new-work in (
  c.requires.0,
  c.requires.1,
  fit_alike a.queue (queue_held new.result) new.ensures.0 a.acting a.p new.ensures.1 c.requires.2,
  c.requires.3,
  omega (arith, length-take-le a.p.used a.line.now (omega (arith, c.requires.2.2, c.requires.4)), c.requires.2.2),
  c.requires.5,
  new.ensures.2 a.rows.now a.facts.now a.numbers.now a.fresh.now c.requires.6,
)

pub returns-then-last : goal.returns-then-last
returns-then-last c = let a = c.args in let last = c.take_line-last in let new = c.new-work in
    let s₀ = state_in a.facts.now a.numbers.now in let s₁ = state_in last.new.facts last.new.numbers in
    λ s. closed_refused (rules_in a.rows.now (goal_at a.goal.now) (signed_in a.heads.now a.acting) s) s₀ s₁ a.queue a.p
    (reader (known_in a.tables.now a.counts a.heads.now a.acting a.rows.now)) c.requires.3 (take a.p.used a.line.now) (queue_held last.new.work) last.result
    (rw (← check_alike a.queue (queue_held new.result) new.ensures.0 s₀ a.p) (last.ensures.0 (goal_at a.goal.now) s)) s₁ c.if-last.true

pub returns : goal.returns
returns c = let a = c.args in let last = c.take_line-last in let new = c.new-work in let end = c.end_run-past in
    let s₀ = state_in a.facts.now a.numbers.now in let s₁ = state_in last.new.facts last.new.numbers in
    let n = signed_length a.heads.now a.acting in
    λ s. closed_run (rules_in a.rows.now (goal_at a.goal.now) (signed_in a.heads.now a.acting) s) s₀ s₁ a.queue a.p
    (reader (known_in a.tables.now a.counts a.heads.now a.acting a.rows.now)) c.requires.3 (take a.p.used a.line.now) (queue_held last.new.work) last.result
    (rw (← check_alike a.queue (queue_held new.result) new.ensures.0 s₀ a.p) (last.ensures.0 (goal_at a.goal.now) s)) (state_in end.new.facts end.new.numbers) end.result c.begun.result c.if-last.false c.begun.ensures
    (end.ensures (signed_in a.heads.now a.acting) s (rw n last.ensures.1.0) (rw n c.requires.1.1))
