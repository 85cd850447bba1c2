use borrow.Enum.Refused.{opened}
use mathlib.Core.Path.{refl, sym, ◌∙◌}
use native.Mathlib.Omega.{arith}
use Rattle.domain_due.proofs.Dues.{word_in, word_as, ahead_refused, ahead_by}
use Rattle.domain_typed_lists.specs.Outcome.{Below}
use Rattle.domain_typed_lists.proofs.Outcomes.{below_refused, below_most, found}
use Rattle.domain_typed_lists.proofs.Typing.{never_ahead, type_else, type_other, type_unknown, type_late, type_known}
use Rattle.text_tokens.proofs.Words.{word_is}
use Rattle.domain_typed_lists.proofs.types.type_due.Goals as goal

pub returns-in_default : goal.returns-in_default
returns-in_default c = (λ m t h. type_else _ t _ _ _ _ c.token_at-t.ensures (opened c.in_default.in_default-own.keys2) c.no_word.ensures.0, never_ahead _ _ _ c.no_word.ensures.1, below_most _ 0 _ (omega arith) c.no_word.ensures.1)

pub returns-in_default-k : goal.returns-in_default-k
returns-in_default-k c = (λ m t h. type_other _ t _ _ _ _ _ (sym c.token_at-t.ensures ∙ c.in-Word.is) (opened c.in_default-k.in_default-k-own.keys2), ahead_refused _ _ _ _ _ refl, below_refused _ _ _ _ refl)

pub returns-in_default-find : goal.returns-in_default-find
returns-in_default-find c = (λ m t h. type_unknown _ t _ _ _ _ (word_as _ _ _ _ _ (sym c.token_at-t.ensures ∙ c.in-Word.is) c.in-Name.is) (found m _ _ t _ _ _ _ h c.find.ensures (c.word_of.ensures ∙ word_is _ _ _ _ _ refl) c.in_default-find.is), ahead_refused _ _ _ _ _ refl, below_refused _ _ _ _ refl)

pub returns-then-b-i : goal.returns-then-b-i
returns-then-b-i c = (λ m t h. type_late _ t _ _ _ _ (word_as _ _ _ _ _ (sym c.token_at-t.ensures ∙ c.in-Word.is) c.in-Name.is) _ (found m _ _ t _ _ _ _ h c.find.ensures (c.word_of.ensures ∙ word_is _ _ _ _ _ refl) c.in-Some.is) c.if-b-i.true, ahead_refused _ _ _ _ _ refl, below_refused _ _ _ _ refl)

pub returns : goal.returns
unfolding Below
returns c = let w = word_in _ _ c.requires _ _ _ (sym c.token_at-t.ensures ∙ c.in-Word.is) in (λ m t h. type_known _ t _ _ _ _ (word_as _ _ _ _ _ (sym c.token_at-t.ensures ∙ c.in-Word.is) c.in-Name.is) _ (found m _ _ t _ _ _ _ h c.find.ensures (c.word_of.ensures ∙ word_is _ _ _ _ _ refl) c.in-Some.is) c.if-b-i.false, ahead_by _ _ _ _ (omega arith) w.2, c.if-b-i.false)
