use borrow.Enum.Refused.{opened}
use mathlib.Core.Path.{refl, sym, ◌∙◌}
use Rattle.domain_meaning.specs.Lists.{item}
use Rattle.domain_due.proofs.Dues.{word_in}
use Rattle.domain_typed_lists.proofs.Next.{item_else}
use Rattle.text_tokens.proofs.Words.{word_is}
use Rattle.domain_typed_lists.proofs.items.item_at.Goals as goal

pub returns-in-Close : goal.returns-in-Close
unfolding item
returns-in-Close c = rw (sym c.token_at-t.ensures ∙ c.in-Close.is)

pub returns-in_default-t : goal.returns-in_default-t
returns-in_default-t c = item_else _ _ _ _ _ c.token_at-t.ensures (opened c.in_default.in_default-own.keys2) (opened c.in_default-t.in_default-t-own.keys2) c.not_due.ensures

pub item_of-requires : goal.item_of-requires
item_of-requires c = (word_in _ _ c.requires _ _ _ (sym c.token_at-t.ensures ∙ c.in-Word.is)).1

pub returns : goal.returns
unfolding item
returns c = rw (sym c.token_at-t.ensures ∙ c.in-Word.is) (c.item_of.ensures c.args.text.now (c.word_of.ensures ∙ word_is _ _ _ _ _ refl))
