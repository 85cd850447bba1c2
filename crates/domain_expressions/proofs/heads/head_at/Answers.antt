use borrow.Enum.Refused.{opened}
use Rattle.std.specs.Prelude.{Err}
use mathlib.Core.Logic.{inl, inr}
use mathlib.Core.Path.{refl, sym, ap, ◌∙◌}
use native.Mathlib.Omega.{arith}
use Rattle.domain_expressions.proofs.Beginning.{bracket_refused, bracket_by, bracket_name, head_else, head_word, inside_refused, inside_function, inside_from}
use Rattle.domain_due.proofs.Dues.{word_in}
use Rattle.text_tokens.proofs.Words.{word_is}
use Rattle.domain_expressions.proofs.heads.head_at.Goals as goal

pub returns-in_default : goal.returns-in_default
returns-in_default c = (λ x f. bracket_refused _ _ x f c.args.left _ _ _ _ (ap Err c.not_due.ensures) (head_else _ _ x f c.args.left _ _ c.token_at-t.ensures (opened c.in_default.in_default-own.keys2)), inside_refused _ _ _)

pub operation_of-requires : goal.operation_of-requires
operation_of-requires c = let w = word_in _ _ c.requires _ _ _ (sym c.token_at-t.ensures ∙ c.in-Word.is) in w.1

pub returns-in-Name : goal.returns-in-Name
returns-in-Name c = let w = word_in _ _ c.requires _ _ _ (sym c.token_at-t.ensures ∙ c.in-Word.is) in (λ x f. bracket_name _ _ x f c.args.left _ _ _ (head_word _ _ x f c.args.left _ _ _ _ _ (sym c.token_at-t.ensures ∙ c.in-Word.is) c.in-Name.is), inside_function _ _ _ _ (omega arith) w.2)

pub returns-in-Operator : goal.returns-in-Operator
returns-in-Operator c = let w = word_in c.args.text.now c.args.from c.requires _ _ _ (sym c.token_at-t.ensures ∙ c.in-Word.is) in (λ x f. bracket_by c.args.text.now c.args.d x f c.args.left c.operation_of.result _ _ (head_word c.args.text.now c.args.d x f c.args.left c.args.from _ _ _ _ (sym c.token_at-t.ensures ∙ c.in-Word.is) c.in-Operator.is) (rw (c.head_of.ensures, (c.word_of.ensures ∙ word_is _ _ _ _ _ refl)) at (c.operation_of.ensures.0 c.args.text.now c.args.d x f)), inside_from c.operation_of.result _ _ _ _ w.0 w.2 c.operation_of.ensures.1)

pub returns-in-Variable : goal.returns-in-Variable
returns-in-Variable c = (
  λ x f. bracket_refused _ _ x f c.args.left _ 3 _ _ refl (elim c.in-Variable.is [
    | inl k ↦ head_word _ _ x f c.args.left _ _ _ _ _ (sym c.token_at-t.ensures ∙ c.in-Word.is) k
    | inr k ↦ head_word _ _ x f c.args.left _ _ _ _ _ (sym c.token_at-t.ensures ∙ c.in-Word.is) k
  ]),
  inside_refused _ _ _,
)
