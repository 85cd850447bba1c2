use Rattle.domain_preparing.proofs.Effecting.{begins_low, begins_high}
use Rattle.domain_preparing.proofs.effects.begins_effect.Goals as goal

pub returns-then-tag-lt4 : goal.returns-then-tag-lt4
returns-then-tag-lt4 c = begins_low _ c.if-tag-lt4.true

pub returns : goal.returns
returns c = begins_high _ c.if-tag-lt4.false
