use Rattle.text_tokens.proofs.Standing.{sign_here}
use Rattle.text_tokens.proofs.signs.stands.Goals as goal

pub returns : goal.returns
returns c = sign_here _ _ _ _ c.if-p-gt255.false c.if-line-p.false c.if-line-p-2.false c.is_sign.ensures
