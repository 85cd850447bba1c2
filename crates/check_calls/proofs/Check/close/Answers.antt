use mathlib.Core.Path.{◌∙◌}
use lib.ListN.{replicate}
use Rattle.happening_state.specs.States.{state_in}
use Rattle.check_calls.specs.Calls.{any_state}
use Rattle.check_calls.proofs.Padding.{zeros_padded}
use Rattle.check_calls.proofs.Calling.{Long, ready_for, finish_stopped, finish_goes}
use borrow.Author.Rules.{rules}
use Rattle.check_calls.proofs.Check.close.Goals as goal

pub end_plan-after-requires : goal.end_plan-after-requires
end_plan-after-requires c =
    let long : Long c.args.self = record { tables = search rules; heads = search rules; rows = search rules; line = search rules } in
    ready_for c.args.self c.requires.0 long c.requires.2

pub returns-then-after : goal.returns-then-after
returns-then-after c = let check = c.args.self in let after = c.end_plan-after in
    c.answered.ensures ∙ finish_stopped check c.requires.0 c.requires.1 c.requires.2 (state_in after.new.facts after.new.numbers) after.result (after.ensures any_state) c.if-after.true _ c.refused_check-check.ensures _ c.standing_answer.ensures

pub returns : goal.returns
returns c = let check = c.args.self in let after = c.end_plan-after in
    c.answered-2.ensures ∙ finish_goes check c.requires.0 c.requires.1 c.requires.2 (state_in after.new.facts after.new.numbers) after.result (after.ensures any_state) c.if-after.false _ (replicate 257 0) _ c.nobody-self.ensures (zeros_padded 257) c.end-self.ensures
