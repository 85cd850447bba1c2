use borrow.Enum.Refused.{opened}
use Rattle.std.specs.Prelude.{Err}
use mathlib.Core.Logic.{inl, inr}
use mathlib.Core.Path.{refl, sym, ap, ◌∙◌}
use Rattle.domain_conditions.proofs.Beginning.{begin_refused, begin_by, head_else, head_word, inside_refused, inside_from}
use Rattle.domain_due.proofs.Dues.{word_in}
use Rattle.text_tokens.proofs.Words.{word_is}
use Rattle.domain_conditions.proofs.heads.head_at.Goals as goal

pub returns-in_default : goal.returns-in_default
returns-in_default c = (λ x y f g. begin_refused _ _ x y c.args.left f g _ _ _ _ (ap Err c.not_due.ensures) (head_else _ _ x y c.args.left f g _ _ c.token_at-t.ensures (opened c.in_default.in_default-own.keys2)), inside_refused _ _ _)

pub named_of-requires : goal.named_of-requires
named_of-requires c = let w = word_in _ _ c.requires _ _ _ (sym c.token_at-t.ensures ∙ c.in-Word.is) in w.1

pub operated_of-requires : goal.operated_of-requires
operated_of-requires c = let w = word_in _ _ c.requires _ _ _ (sym c.token_at-t.ensures ∙ c.in-Word.is) in w.1

pub returns-in-Name : goal.returns-in-Name
returns-in-Name c = let w = word_in c.args.text.now c.args.from c.requires _ _ _ (sym c.token_at-t.ensures ∙ c.in-Word.is) in (λ x y f g. begin_by c.args.text.now c.args.d x y c.args.left f g c.named_of.result _ _ (head_word c.args.text.now c.args.d x y c.args.left f g c.args.from _ _ _ _ (sym c.token_at-t.ensures ∙ c.in-Word.is) c.in-Name.is) (rw (c.head_of.ensures, (c.word_of.ensures ∙ word_is _ _ _ _ _ refl)) at (c.named_of.ensures.0 c.args.text.now c.args.d x y c.args.left f g)), inside_from c.named_of.result _ _ _ _ w.0 w.2 c.named_of.ensures.1)

pub returns-in-Operator : goal.returns-in-Operator
returns-in-Operator c = let w = word_in c.args.text.now c.args.from c.requires _ _ _ (sym c.token_at-t.ensures ∙ c.in-Word.is) in (λ x y f g. begin_by c.args.text.now c.args.d x y c.args.left f g c.operated_of.result _ _ (head_word c.args.text.now c.args.d x y c.args.left f g c.args.from _ _ _ _ (sym c.token_at-t.ensures ∙ c.in-Word.is) c.in-Operator.is) (rw (c.head_of-in-Operator.ensures, (c.word_of-in-Operator.ensures ∙ word_is _ _ _ _ _ refl)) at (c.operated_of.ensures.0 c.args.text.now c.args.d x y f g)), inside_from c.operated_of.result _ _ _ _ w.0 w.2 c.operated_of.ensures.1)

pub returns-in-Variable : goal.returns-in-Variable
returns-in-Variable c = (
  λ x y f g. begin_refused _ _ x y c.args.left f g _ 3 _ _ refl (elim c.in-Variable.is [
    | inl k ↦ head_word _ _ x y c.args.left f g _ _ _ _ _ (sym c.token_at-t.ensures ∙ c.in-Word.is) k
    | inr k ↦ head_word _ _ x y c.args.left f g _ _ _ _ _ (sym c.token_at-t.ensures ∙ c.in-Word.is) k
  ]),
  inside_refused _ _ _,
)
