use native.Mathlib.Omega.{arith}
use Rattle.domain_timed_parts.proofs.Bodied.{spent_more}
use Rattle.domain_timed_parts.proofs.Fielded.{held_parts, held_instant, spent_under}
use Rattle.domain_timed_parts.proofs.fields.held_at.Goals as goal

pub returns-then-durative : goal.returns-then-durative
returns-then-durative c = (λ x h. held_parts _ x c.args.left _ _ _ _ _ _ _ c.if-durative.true (c.parts_at.ensures.0 x h), spent_more _ 2 _ _ _ c.parts_at.ensures.1)

pub body_at-requires : goal.body_at-requires
body_at-requires c = (c.requires.0, c.requires.1, omega (arith, c.requires.2))

pub returns : goal.returns
returns c = (λ x h. held_instant _ x c.args.left _ _ _ _ _ _ _ _ c.if-durative.false c.put.ensures (c.body_at.ensures.0 x h), spent_under _ _ _ _ c.body_at.ensures.1)
