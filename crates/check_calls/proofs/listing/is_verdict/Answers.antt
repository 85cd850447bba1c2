use mathlib.Core.Path.{sym, ◌∙◌}
use Rattle.check_meaning.specs.Listed.{listed_verdict}
use Rattle.check_calls.proofs.listing.is_verdict.Goals as goal

pub returns-then-is_line : goal.returns-then-is_line
unfolding listed_verdict
returns-then-is_line c = rw (c.in-Conflict.is, sym c.is_line-in-Conflict.ensures ∙ c.if-is_line.true) c.is_line-then-is_line.ensures

pub returns-in-Done : goal.returns-in-Done
unfolding listed_verdict
returns-in-Done c = rw c.in-Done.is

pub returns-in-Duration : goal.returns-in-Duration
unfolding listed_verdict
returns-in-Duration c = rw c.in-Duration.is c.is_line.ensures

pub returns-in-Condition : goal.returns-in-Condition
unfolding listed_verdict
returns-in-Condition c = rw c.in-Condition.is c.is_line-in-Condition.ensures

pub returns-in-Undefined : goal.returns-in-Undefined
unfolding listed_verdict
returns-in-Undefined c = rw c.in-Undefined.is

pub returns-in-Range : goal.returns-in-Range
unfolding listed_verdict
returns-in-Range c = rw c.in-Range.is

pub returns-in-Itself : goal.returns-in-Itself
unfolding listed_verdict
returns-in-Itself c = rw c.in-Itself.is c.is_line-in-Itself.ensures

pub returns-else-is_line : goal.returns-else-is_line
unfolding listed_verdict
returns-else-is_line c = rw (c.in-Conflict.is, sym c.is_line-in-Conflict.ensures ∙ c.if-is_line.false)

pub returns-in-Invariant : goal.returns-in-Invariant
unfolding listed_verdict
returns-in-Invariant c = rw c.in-Invariant.is c.is_line-in-Invariant.ensures

pub returns-in-Goal : goal.returns-in-Goal
unfolding listed_verdict
returns-in-Goal c = rw c.in-Goal.is
