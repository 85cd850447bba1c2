use mathlib.Core.Path.{sym, ◌∙◌}
use Rattle.text_tokens.specs.Tokens.{domain_word}
use Rattle.text_tokens.proofs.tokens.domain_word.Goals as goal

pub returns-then-is_listed : goal.returns-then-is_listed
unfolding domain_word
returns-then-is_listed c = rw (sym c.is_listed.ensures ∙ c.if-is_listed.true)

pub returns-in-Number : goal.returns-in-Number
unfolding domain_word
returns-in-Number c = c.number_token.ensures ∙ rw (sym c.is_listed.ensures ∙ c.if-is_listed.false, sym c.class_of.ensures ∙ c.in-Number.is)

pub returns-in-Name : goal.returns-in-Name
unfolding domain_word
returns-in-Name c = c.sized.ensures ∙ rw (sym c.is_listed.ensures ∙ c.if-is_listed.false, sym c.class_of.ensures ∙ c.in-Name.is)

pub returns-in-Variable : goal.returns-in-Variable
unfolding domain_word
returns-in-Variable c = c.sized-in-Variable.ensures ∙ rw (sym c.is_listed.ensures ∙ c.if-is_listed.false, sym c.class_of.ensures ∙ c.in-Variable.is)

pub returns-in-Keyword : goal.returns-in-Keyword
unfolding domain_word
returns-in-Keyword c = c.sized-in-Keyword.ensures ∙ rw (sym c.is_listed.ensures ∙ c.if-is_listed.false, sym c.class_of.ensures ∙ c.in-Keyword.is)

pub returns-in-Operator : goal.returns-in-Operator
unfolding domain_word
returns-in-Operator c = rw (sym c.is_listed.ensures ∙ c.if-is_listed.false, sym c.class_of.ensures ∙ c.in-Operator.is)

pub returns-in-Other : goal.returns-in-Other
unfolding domain_word
returns-in-Other c = rw (sym c.is_listed.ensures ∙ c.if-is_listed.false, sym c.class_of.ensures ∙ c.in-Other.is)
