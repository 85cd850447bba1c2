use Rattle.std.specs.Prelude.{Err}
use Rattle.std.proofs.lemmas.Result.{err_from_is_err_and}
use borrow.Enum.Refused.{opened}
use Rattle.text_words.specs.Bytes.{bytes}
use mathlib.Core.Path.{ap, refl, sym, ◌∙◌}
use native.Mathlib.Omega.{arith}
use Rattle.domain_due.proofs.Dues.{word_in, ahead_done, ahead_refused}
use Rattle.domain_init.proofs.Ways.{ahead_later, entry_shut, entry_else, entry_fact, entry_number, entry_operator, entry_variable, entry_keyword}
use Rattle.text_tokens.proofs.Words.{word_is}
use Rattle.domain_init.proofs.entries.entry_at.Goals as goal

pub returns-in_err-inside : goal.returns-in_err-inside
returns-in_err-inside c = let p = err_from_is_err_and c.from_residual.result c.from_residual.ensures.1 in rw (p.1, p.2, ← c.in_err-inside.was) ((λ x y k o f st. entry_shut _ x y _ _ c.opening.ensures.0 _ _ _ _ c.in_err-inside.was, ahead_refused _ _ _ _ _ c.in_err-inside.was))

pub returns-in_default : goal.returns-in_default
returns-in_default c = (λ x y k o f st. entry_else _ x y _ _ c.opening.ensures.0 _ _ _ _ c.in_ok-inside.was _ _ c.token_at-t.ensures (opened c.in_default.in_default-own.keys2) (ap Err c.not_due.ensures), ahead_refused _ _ _ _ _ (ap Err c.not_due.ensures))

pub fact_at-requires : goal.fact_at-requires
fact_at-requires c = let v = ahead_done _ _ _ _ _ c.in_ok-inside.was c.opening.ensures.1 in let u = word_in _ _ v.1 _ _ _ (sym c.token_at-t.ensures ∙ c.in-Word.is) in (u.2, c.requires.1)

pub number_at-requires : goal.number_at-requires
number_at-requires c = let v = ahead_done _ _ _ _ _ c.in_ok-inside.was c.opening.ensures.1 in let u = word_in _ _ v.1 _ _ _ (sym c.token_at-t.ensures ∙ c.in-Word.is) in (u.2, c.requires.1)

pub returns-then-same_word : goal.returns-then-same_word
unfolding bytes
returns-then-same_word c = (λ x y k o f st. entry_number _ x y _ _ c.opening.ensures.0 _ _ _ _ c.in_ok-inside.was _ _ _ (sym c.token_at-t.ensures ∙ c.in-Word.is) _ c.in-Operator.is (rw (c.word_of.ensures ∙ word_is _ _ _ _ _ refl) at (sym c.same_word.ensures ∙ c.if-same_word.true)) (c.number_at.ensures.0 x y _ k o f st), let v = ahead_done _ _ _ _ _ c.in_ok-inside.was c.opening.ensures.1 in let u = word_in _ _ v.1 _ _ _ (sym c.token_at-t.ensures ∙ c.in-Word.is) in ahead_later _ _ _ _ (omega (arith, u.0, u.1, v.0)) c.number_at.ensures.1)

pub returns-in-Name : goal.returns-in-Name
returns-in-Name c = (λ x y k o f st. entry_fact _ x y _ _ c.opening.ensures.0 _ _ _ _ c.in_ok-inside.was _ _ _ (sym c.token_at-t.ensures ∙ c.in-Word.is) _ c.in-Name.is (c.fact_at.ensures.0 x y _ k o st), let v = ahead_done _ _ _ _ _ c.in_ok-inside.was c.opening.ensures.1 in let u = word_in _ _ v.1 _ _ _ (sym c.token_at-t.ensures ∙ c.in-Word.is) in ahead_later _ _ _ _ (omega (arith, u.0, u.1, v.0)) c.fact_at.ensures.1)

pub returns-else-same_word : goal.returns-else-same_word
unfolding bytes
returns-else-same_word c = (λ x y k o f st. entry_operator _ x y _ _ c.opening.ensures.0 _ _ _ _ c.in_ok-inside.was _ _ _ (sym c.token_at-t.ensures ∙ c.in-Word.is) c.in-Operator.is (rw (c.word_of.ensures ∙ word_is _ _ _ _ _ refl) at (sym c.same_word.ensures ∙ c.if-same_word.false)), ahead_refused _ _ 3 _ _ refl)

pub returns-in-Variable : goal.returns-in-Variable
returns-in-Variable c = (λ x y k o f st. entry_variable _ x y _ _ c.opening.ensures.0 _ _ _ _ c.in_ok-inside.was _ _ _ (sym c.token_at-t.ensures ∙ c.in-Word.is) c.in-Variable.is, ahead_refused _ _ 3 _ _ refl)

pub returns-in-Keyword : goal.returns-in-Keyword
returns-in-Keyword c = (λ x y k o f st. entry_keyword _ x y _ _ c.opening.ensures.0 _ _ _ _ c.in_ok-inside.was _ _ _ (sym c.token_at-t.ensures ∙ c.in-Word.is) c.in-Keyword.is, ahead_refused _ _ 3 _ _ refl)
