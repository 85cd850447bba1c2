use mathlib.Core.Path.{sym, ◌∙◌}
use native.Mathlib.Omega.{arith}
use Rattle.text_tokens.proofs.Standing.{sign_found}
use Rattle.text_tokens.proofs.signs.sign_at.Goals as goal

pub plan_bracket-requires : goal.plan_bracket-requires
plan_bracket-requires c = omega (arith, (sign_found _ _ _ _ c.if-stands.true c.stands.ensures).0)

pub returns-then-stands : goal.returns-then-stands
returns-then-stands c = c.plan_bracket.ensures ∙ sym (sign_found _ _ _ _ c.if-stands.true c.stands.ensures).1 ∙ c.after_space-p.ensures
