use Rattle.text_tokens.proofs.Standing.{space_passed}
use Rattle.text_tokens.proofs.signs.after_space.Goals as goal

pub returns : goal.returns
returns c = space_passed _ _ c.if-line-from.false c.if-line-from-ne32.false
