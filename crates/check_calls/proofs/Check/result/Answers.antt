use mathlib.Core.Path.{sym, ◌∙◌}
use borrow.Author.Tests.{not-true, not-false}
use Rattle.check_calls.specs.Calls.{line_in, result_of}
use Rattle.check_calls.proofs.Results.{beside, unformed, early, done, short, written}
use Rattle.check_calls.proofs.Check.result.Goals as goal

pub returns-then-not-is_formed : goal.returns-then-not-is_formed
unfolding result_of
returns-then-not-is_formed c = beside c.answered.ensures _ ∙ unformed _ _ _ (sym c.is_formed.ensures ∙ c.if-not-is_formed.true)

pub returns-then-not-self : goal.returns-then-not-self
unfolding result_of
returns-then-not-self c = beside c.answered-then-not-self.ensures _ ∙ early _ _ _ (sym c.is_formed.ensures ∙ c.if-not-is_formed.false) (not-true _ c.if-not-self.true)

pub returns-then-line-lt64 : goal.returns-then-line-lt64
unfolding result_of
returns-then-line-lt64 c = beside c.answered-then-line-lt64.ensures _ ∙ short c.args.self c.args.line.now 64 (line_in c.args.self.progress) c.if-line-lt64.true ∙ done c.args.self c.args.line.now _ (sym c.is_formed.ensures ∙ c.if-not-is_formed.false) (not-false _ c.if-not-self.false)

pub returns : goal.returns
unfolding result_of
returns c = beside c.answered-2.ensures _ ∙ written c.args.self c.args.line.now 64 (line_in c.args.self.progress) c.if-line-lt64.false c.write_line-n.result _ c.write_line-n.ensures.1 c.write_line-n.ensures.0 ∙ done c.args.self c.args.line.now _ (sym c.is_formed.ensures ∙ c.if-not-is_formed.false) (not-false _ c.if-not-self.false)
