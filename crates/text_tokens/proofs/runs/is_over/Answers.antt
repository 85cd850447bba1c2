use mathlib.Core.Path.{sym}
use borrow.Author.Tests.{le-leb}
use Rattle.text_tokens.proofs.Steps.{over_end, over_at}
use Rattle.text_tokens.proofs.runs.is_over.Goals as goal

pub returns-then-text-at : goal.returns-then-text-at
returns-then-text-at c = rw (le-leb _ _ c.if-text-at.true) (sym (over_end _ _ _ c.if-text-at.true))

pub returns-else-text-at : goal.returns-else-text-at
returns-else-text-at c = over_at _ _ _ _ c.if-text-at.false (sym c.in_run.ensures)
