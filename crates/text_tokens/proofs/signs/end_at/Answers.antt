use Rattle.text_tokens.proofs.Standing.{end_here}
use Rattle.text_tokens.proofs.signs.end_at.Goals as goal

pub returns-then-line-from : goal.returns-then-line-from
returns-then-line-from c = end_here _ _ _ c.if-line-from.true c.judged.ensures
