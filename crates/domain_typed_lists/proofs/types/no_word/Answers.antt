use borrow.Enum.Refused.{opened}
use mathlib.Core.Path.{refl, sym, ap, ◌∙◌}
use native.Mathlib.Omega.{arith}
use Rattle.text_words.specs.Bytes.{bytes}
use Rattle.std.specs.Prelude.{Err}
use Rattle.domain_typed_lists.proofs.Outcomes.{below_refused}
use Rattle.domain_typed_lists.proofs.Typing.{bracket_in, other_else, other_bracket, other_either}
use Rattle.domain_typed_lists.proofs.types.no_word.Goals as goal

pub returns-in_default : goal.returns-in_default
returns-in_default c = (λ at. other_else _ _ at _ _ c.token_at-t.ensures (opened c.in_default.in_default-own.keys2) (ap Err c.not_due.ensures), below_refused _ _ _ _ (ap Err c.not_due.ensures))

pub overflow_add-p : goal.overflow_add-p
overflow_add-p c = let w = bracket_in _ _ _ _ c.requires (sym c.token_at-t.ensures ∙ c.in-Open.is) in omega (arith, w)

pub returns-in_default-spot_at : goal.returns-in_default-spot_at
unfolding bytes
returns-in_default-spot_at c = (λ at. other_bracket _ _ at _ _ (sym c.token_at-t.ensures ∙ c.in-Open.is) (sym c.spot_at.ensures ∙ c.in_default-spot_at.is), below_refused _ _ _ _ refl)

pub returns : goal.returns
unfolding bytes
returns c = (λ at. other_either _ _ at _ _ (sym c.token_at-t.ensures ∙ c.in-Open.is) _ _ (sym c.spot_at.ensures ∙ c.in-Some.is), below_refused _ _ _ _ refl)
