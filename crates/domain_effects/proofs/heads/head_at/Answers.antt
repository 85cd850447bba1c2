use Rattle.std.specs.Prelude.{Err}
use borrow.Enum.Refused.{opened}
use mathlib.Core.Path.{ap, refl, sym, ◌∙◌}
use native.Mathlib.Omega.{arith}
use Rattle.domain_effects.proofs.Leading.{lead_refused, lead_by, head_else, head_other, head_name, inside_refused, inside_from}
use Rattle.domain_due.proofs.Dues.{word_in}
use Rattle.text_tokens.proofs.Words.{word_is}
use Rattle.domain_effects.proofs.heads.head_at.Goals as goal

pub returns-in_default : goal.returns-in_default
returns-in_default c = (λ x f n. lead_refused _ _ x f n _ _ _ _ (ap Err c.not_due.ensures) (head_else _ _ x f n _ _ c.token_at-t.ensures (opened c.in_default.in_default-own.keys2)), inside_refused _ _ _ _ _)

pub returns-in_default-k : goal.returns-in_default-k
returns-in_default-k c = (λ x f n. lead_refused _ _ x f n _ 3 _ _ refl (head_other _ _ x f n _ _ _ _ (sym c.token_at-t.ensures ∙ c.in-Word.is) (opened c.in_default-k.in_default-k-own.keys2)), inside_refused _ _ _ _ _)

pub led_by-requires : goal.led_by-requires
led_by-requires c = let w = word_in _ _ c.requires _ _ _ (sym c.token_at-t.ensures ∙ c.in-Word.is) in w.1

pub returns : goal.returns
returns c = let w = word_in c.args.text.now c.args.from c.requires _ _ _ (sym c.token_at-t.ensures ∙ c.in-Word.is) in (λ x f n. lead_by c.args.text.now c.args.d x f n c.led_by.result _ _ (head_name c.args.text.now c.args.d x f n c.args.from _ _ _ (sym c.token_at-t.ensures ∙ c.in-Word.is) c.in-Name.is) (rw (c.head_of.ensures, (c.word_of.ensures ∙ word_is _ _ _ _ _ refl)) at (c.led_by.ensures.0 c.args.text.now c.args.d x f n)), inside_from _ _ _ c.led_by.result _ _ _ (omega (arith, w.0)) w.2 (omega arith) c.led_by.ensures.1)
