use mathlib.Core.Path.{◌∙◌}
use Rattle.domain_prepared_meaning.specs.Decode.{goal_at}
use Rattle.happening_state.specs.States.{state_in}
use Rattle.check_calls.specs.Calls.{any_state}
use Rattle.check_calls.proofs.Calling.{Long, ready_for, feed_stopped, feed_goes}
use borrow.Author.Rules.{rules}
use Rattle.check_calls.proofs.Check.take.Goals as goal

pub take_part-taken-requires : goal.take_part-taken-requires
take_part-taken-requires c =
    let long : Long c.args.self = record { tables = search rules; heads = search rules; rows = search rules; line = search rules } in
    ready_for c.args.self c.requires.0 long c.requires.2

pub returns-then-after : goal.returns-then-after
returns-then-after c = let check = c.args.self in let taken = c.take_part-taken in
    c.answered.ensures ∙ feed_stopped check c.requires.0 c.requires.1 c.requires.2 c.args.part.now (state_in taken.new.facts taken.new.numbers) taken.new.line taken.result.queue taken.result.progress (taken.ensures.0 (goal_at check.model.goal) any_state) c.if-after.true _ c.refused_check-check.ensures _ c.standing_answer.ensures

pub returns : goal.returns
returns c = let check = c.args.self in let taken = c.take_part-taken in
    c.answered-2.ensures ∙ feed_goes check c.requires.0 c.requires.1 c.requires.2 c.args.part.now (state_in taken.new.facts taken.new.numbers) taken.new.line taken.result.queue taken.result.progress (taken.ensures.0 (goal_at check.model.goal) any_state) c.if-after.false taken.ensures.1.2 taken.ensures.2 _ _ _ c.tidy-self.ensures c.tidy_line-self.ensures c.settle-self.ensures
