use Prim.Native.Nat.{◌+◌}
use borrow.Author.Rules.{rules}
use mathlib.Core.Path.{ap, ◌∙◌}
use lib.ListN.{set}
use Rattle.happening_state.specs.States.{state_in}
use Rattle.plan_running.specs.declared.Workspace.{Workspace}
use Rattle.plan_running.proofs.Judging.{judging_next, judging_fails, judging_end, judging_spanned, judging_dropped, spares_here}
use Rattle.plan_running.proofs.Slots.{place_timed}
use Rattle.plan_running.proofs.Workspace.judge_lines.Goals as goal

pub judge_place-o-requires : goal.judge_place-o-requires
judge_place-o-requires c = let a = c.args in let w = a.self.now in let k = c.loop-i.invariant in let h = c.loop-i-test.true in
    let there = rw k.0 at c.place_at-p.ensures.0 in
    rw k.0 (c.place_at-p.ensures.1, c.requires.2, place_timed w.words w.objects w.count c.loop-i.i c.requires.0 h there, spares_here a.rows.now w.words w.objects w.count a.t (state_in a.facts.now a.numbers.now) k.1 c.requires.4 h there)

pub returns-in_default : goal.returns-in_default
returns-in_default c = let a = c.args in let w = a.self.now in let k = c.loop-i.invariant in let h = c.loop-i-test.true in
    let there = rw k.0 at c.place_at-p.ensures.0 in
    let judged = rw k.0 at c.judge_place-o.ensures.1 in (
      judging_fails a.rows.now w.words w.objects w.count a.t (state_in a.facts.now a.numbers.now) k.1 c.requires.1 h there judged (search rules),
      ap (λ (s : Workspace). record s { watches = set c.judge_place-o.new.self.watches 64 0 }) (c.judge_place-o.ensures.0 ∙ ap (λ (s : Workspace). record s { watches = c.judge_place-o.new.self.watches }) k.0),
      judging_dropped a.rows.now w.words w.objects w.count a.t (state_in a.facts.now a.numbers.now) k.1 c.requires.1 h there judged,
    )

pub loop-i-preserved : goal.loop-i-preserved
loop-i-preserved c = let a = c.args in let w = a.self.now in let k = c.loop-i.invariant in let h = c.loop-i-test.true in
    let there = rw k.0 at c.place_at-p.ensures.0 in (
      c.judge_place-o.ensures.0 ∙ ap (λ (s : Workspace). record s { watches = c.judge_place-o.new.self.watches }) k.0,
      judging_next a.rows.now w.words w.objects w.count a.t (state_in a.facts.now a.numbers.now) k.1 c.requires.1 h there (rw k.0 at c.judge_place-o.ensures.1) c.in-Done.is,
    )

pub returns : goal.returns
returns c = let a = c.args in let w = a.self.now in let k = c.loop-i.invariant in (
  judging_end a.rows.now w.words w.objects w.count a.t (state_in a.facts.now a.numbers.now) k.1 c.loop-i-test.false,
  ap (λ (s : Workspace). record s { watches = set c.loop-i.self.watches 64 (a.t + 1) }) k.0,
  judging_spanned a.rows.now w.words w.objects w.count a.t (state_in a.facts.now a.numbers.now) k.1 c.loop-i-test.false (a.t + 1),
)
