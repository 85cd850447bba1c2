use mathlib.Core.Path.{sym, ◌∙◌}
use Rattle.check_calls.specs.Calls.{finish_of}
use Rattle.check_calls.proofs.Calling.{unformed, late, finish_stands}
use Rattle.check_calls.proofs.Check.finish.Goals as goal

pub returns-then-not-is_formed : goal.returns-then-not-is_formed
unfolding finish_of
returns-then-not-is_formed c = c.answered.ensures ∙ unformed _ _ (sym c.is_formed.ensures ∙ c.if-not-is_formed.true)

pub returns-then-self : goal.returns-then-self
unfolding finish_of
returns-then-self c = c.answered-then-self.ensures ∙ late _ _ (sym c.is_formed.ensures ∙ c.if-not-is_formed.false) c.if-self.true

pub returns-then-self-2 : goal.returns-then-self-2
returns-then-self-2 c = c.answered-then-self-2.ensures ∙ finish_stands _ (sym c.is_formed.ensures ∙ c.if-not-is_formed.false) c.if-self.false c.if-self-2.true _ c.standing_answer.ensures

pub close-requires : goal.close-requires
close-requires c = ((sym c.is_formed.ensures ∙ c.if-not-is_formed.false), c.if-self.false, c.if-self-2.false)
