use Rattle.text_words.specs.Bytes.{bytes}
use Rattle.domain_actions.proofs.Resting.{field_effect}
use Rattle.domain_actions.proofs.bodies.effects_field.Goals as goal

pub returns : goal.returns
unfolding bytes
returns c = (λ x h. field_effect _ x _ _ _ _ _ _ (c.field_parts.ensures.0 x h), c.field_parts.ensures.1)
