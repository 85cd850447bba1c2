use borrow.Enum.Refused.{opened}
use mathlib.Core.Path.{sym, ap, ◌∙◌}
use Rattle.std.specs.Prelude.{Err}
use Rattle.domain_due.proofs.Dues.{not_name, word_as, any_else, any_other, any_read}
use Rattle.domain_due.proofs.any_name.Goals as goal

pub returns-in_default : goal.returns-in_default
returns-in_default c = any_else _ _ _ _ _ c.token_at-t.ensures (opened c.in_default.in_default-own.keys2) (ap Err c.not_due.ensures)

pub returns-in_default-k : goal.returns-in_default-k
returns-in_default-k c = any_other _ _ _ _ _ _ (sym c.token_at-t.ensures ∙ c.in-Word.is) (not_name c.in-Word.k (opened c.in_default-k.in_default-k-own.keys2))

pub returns : goal.returns
returns c = any_read _ _ _ _ _ c.requires (word_as _ _ _ _ _ (sym c.token_at-t.ensures ∙ c.in-Word.is) c.in-Name.is)
