use borrow.Author.Rules.{rules}
use mathlib.Core.Path.{refl}
use Rattle.happening_forms.specs.Summed.{summed}
use Rattle.happening_state.specs.States.{state_in}
use Rattle.happening_steps.proofs.Promised.{spanning_end, instant_stops, instant_spans}
use Rattle.plan_waiting.specs.Waiting.{used}
use Rattle.plan_running.specs.Running.{queue_held}
use Rattle.plan_running.specs.Lines.{points_on, lines_on}
use Rattle.plan_running.proofs.Judging.{spanned_none}
use Rattle.plan_running.proofs.Poising.{none_open, none_spanned, watched_spared}
use Rattle.plan_running.proofs.Workspace.happen_now.Goals as goal

pub returns-in_default : goal.returns-in_default
returns-in_default c = let a = c.args in let w = a.self.now in let r = a.rows.now in let l = used (queue_held w) in
    let laid = c.lay_points-n.ensures in let next = c.requires.1 in
    let eh = rw (laid.1, (laid.2 next.0 next.1).1 r) at c.happen-o.ensures.0 in
    rw laid.1 (
      instant_stops summed (state_in a.facts.now a.numbers.now) (points_on r a.t l) (lines_on r a.t l) eh (search rules),
      record { words = refl; objects = refl; count = refl; same = c.happen-o.ensures.1; clean = c.happen-o.ensures.2; spanned = spanned_none r w.words w.objects w.count a.t w.watches (state_in c.happen-o.new.facts c.happen-o.new.numbers) c.requires.4.watched.long },
    )

pub returns-then-n-self : goal.returns-then-n-self
returns-then-n-self c = let a = c.args in let w = a.self.now in let r = a.rows.now in let l = used (queue_held w) in
    let laid = c.lay_points-n.ensures in let next = c.requires.1 in
    let eh = rw (laid.1, (laid.2 next.0 next.1).1 r) at c.happen-o.ensures.0 in
    let all = rw laid.1 at c.if-n-self.true in
    let few = c.requires.4.kept.few in
    rw laid.1 (
      instant_spans summed (state_in a.facts.now a.numbers.now) (points_on r a.t l) (lines_on r a.t l) eh c.in-Done.is (spanning_end summed (state_in c.happen-o.new.facts c.happen-o.new.numbers) (none_open w.words w.objects w.count few a.t (laid.2 next.0 next.1).0 all r)),
      record { words = refl; objects = refl; count = refl; same = c.happen-o.ensures.1; clean = c.happen-o.ensures.2; spanned = none_spanned w.words w.objects w.count few a.t (laid.2 next.0 next.1).0 all r w.watches (state_in c.happen-o.new.facts c.happen-o.new.numbers) c.requires.4.watched.long },
    )

pub judge_lines-requires : goal.judge_lines-requires
judge_lines-requires c = let a = c.args in let w = a.self.now in let r = a.rows.now in let l = used (queue_held w) in
    let laid = c.lay_points-n.ensures in let next = c.requires.1 in
    let there = (laid.2 next.0 next.1).1 r in
    let eh = rw (laid.1, there) at c.happen-o.ensures.0 in
    rw laid.1 (c.requires.0, c.requires.4.kept, c.requires.3.0, c.requires.2, watched_spared c.requires.4.watched (points_on r a.t l) eh (rw there at c.written-written.ensures))

pub returns : goal.returns
returns c = let a = c.args in let w = a.self.now in let r = a.rows.now in let l = used (queue_held w) in
    let laid = c.lay_points-n.ensures in let next = c.requires.1 in
    let eh = rw (laid.1, (laid.2 next.0 next.1).1 r) at c.happen-o.ensures.0 in
    let judged = rw laid.1 at c.judge_lines.ensures in
    rw judged.1 (
      instant_spans summed (state_in a.facts.now a.numbers.now) (points_on r a.t l) (lines_on r a.t l) eh c.in-Done.is judged.0,
      record { words = refl; objects = refl; count = refl; same = c.happen-o.ensures.1; clean = c.happen-o.ensures.2; spanned = judged.2 },
    )
