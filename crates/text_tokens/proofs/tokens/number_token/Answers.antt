use mathlib.Core.Path.{sym, ◌∙◌}
use mir.Syntax.{w64}
use mir.ValLaws.{to_z-of_z}
use Rattle.text_tokens.specs.Tokens.{number_token}
use Rattle.text_tokens.proofs.tokens.number_token.Goals as goal

pub returns-in-Some : goal.returns-in-Some
unfolding number_token
returns-in-Some c = rw (sym c.number_of.ensures ∙ c.in-Some.is, to_z-of_z w64 c.in-Some.z (record { sfits = c.in-Some.known_told-1-own.given.0.1 }))

pub returns-in-None : goal.returns-in-None
unfolding number_token
returns-in-None c = rw (sym c.number_of.ensures ∙ c.in-None.is)
