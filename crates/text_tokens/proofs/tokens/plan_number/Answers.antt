use mathlib.Core.Path.{sym, ◌∙◌}
use Rattle.text_tokens.specs.Tokens.{plan_number}
use Rattle.text_tokens.proofs.tokens.plan_number.Goals as goal

pub returns-then-begins_with : goal.returns-then-begins_with
unfolding plan_number
returns-then-begins_with c = rw (sym c.begins_with.ensures ∙ c.if-begins_with.true)

pub returns : goal.returns
unfolding plan_number
returns c = c.number_token.ensures ∙ rw (sym c.begins_with.ensures ∙ c.if-begins_with.false)
