use mathlib.Core.Path.{sym, ◌∙◌}
use Rattle.check_calls.specs.Calls.{numbers_of}
use Rattle.check_calls.proofs.Results.{beside, unformed, early, done, stateless, few_numbers, numbers_short, numbers_written}
use borrow.Author.Rules.{rules}
use Rattle.check_calls.proofs.Check.numbers.Goals as goal

pub returns-then-not-is_formed : goal.returns-then-not-is_formed
unfolding numbers_of
returns-then-not-is_formed c = beside c.answered.ensures _ ∙ unformed _ _ _ (sym c.is_formed.ensures ∙ c.if-not-is_formed.true)

pub returns-then-not-self : goal.returns-then-not-self
unfolding numbers_of
returns-then-not-self c = beside c.answered-then-not-self.ensures _ ∙ early _ _ _ (sym c.is_formed.ensures ∙ c.if-not-is_formed.false) (c.if-not-self.true)

pub returns-then-self : goal.returns-then-self
unfolding numbers_of
returns-then-self c = beside c.answered-then-self.ensures _ ∙ stateless c.args.self c.args.out.now _ c.if-self.true ∙ done c.args.self c.args.out.now _ (sym c.is_formed.ensures ∙ c.if-not-is_formed.false) (c.if-not-self.false)

pub returns-then-out-n : goal.returns-then-out-n
returns-then-out-n c = beside c.answered-then-out-n.ensures _ ∙ numbers_short _ _ (sym c.is_formed.ensures ∙ c.if-not-is_formed.false) (c.if-not-self.false) c.if-self.false c.if-out-n.true

pub write_numbers-requires : goal.write_numbers-requires
write_numbers-requires c = (few_numbers c.args.self (sym c.is_formed.ensures ∙ c.if-not-is_formed.false) (search rules), c.if-out-n.false)

pub returns : goal.returns
returns c = beside c.answered-2.ensures _ ∙ numbers_written _ _ (sym c.is_formed.ensures ∙ c.if-not-is_formed.false) (c.if-not-self.false) c.if-self.false (search rules) c.if-out-n.false _ c.write_numbers.ensures
