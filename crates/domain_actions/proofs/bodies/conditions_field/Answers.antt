use Rattle.text_words.specs.Bytes.{bytes}
use Rattle.domain_actions.proofs.Resting.{field_durative, field_simple}
use Rattle.domain_actions.proofs.bodies.conditions_field.Goals as goal

pub returns-then-durative : goal.returns-then-durative
unfolding bytes
returns-then-durative c = (λ x h. field_durative _ x _ _ _ _ _ _ c.if-durative.true (c.field_parts.ensures.0 x h), c.field_parts.ensures.1)

pub returns : goal.returns
unfolding bytes
returns c = (λ x h. field_simple _ x _ _ _ _ _ _ c.if-durative.false (c.field_parts-2.ensures.0 x h), c.field_parts-2.ensures.1)
