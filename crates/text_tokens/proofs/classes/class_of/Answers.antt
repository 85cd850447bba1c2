use mathlib.Core.Path.{sym, ◌∙◌}
use Rattle.text_tokens.specs.Classes.{class_of}
use Rattle.text_tokens.proofs.classes.class_of.Goals as goal

pub returns-then-begins_number : goal.returns-then-begins_number
unfolding class_of
returns-then-begins_number c = rw (sym c.begins_number.ensures ∙ c.if-begins_number.true)

pub returns-then-is_name : goal.returns-then-is_name
unfolding class_of
returns-then-is_name c = rw (sym c.begins_number.ensures ∙ c.if-begins_number.false, sym c.is_name.ensures ∙ c.if-is_name.true)

pub returns-then-is_marked : goal.returns-then-is_marked
unfolding class_of
returns-then-is_marked c = rw (sym c.begins_number.ensures ∙ c.if-begins_number.false, sym c.is_name.ensures ∙ c.if-is_name.false, sym c.is_marked.ensures ∙ c.if-is_marked.true)

pub returns-then-is_marked-2 : goal.returns-then-is_marked-2
unfolding class_of
returns-then-is_marked-2 c = rw (sym c.begins_number.ensures ∙ c.if-begins_number.false, sym c.is_name.ensures ∙ c.if-is_name.false, sym c.is_marked.ensures ∙ c.if-is_marked.false, sym c.is_marked-2.ensures ∙ c.if-is_marked-2.true)

pub returns-then-is_operator : goal.returns-then-is_operator
unfolding class_of
returns-then-is_operator c = rw (sym c.begins_number.ensures ∙ c.if-begins_number.false, sym c.is_name.ensures ∙ c.if-is_name.false, sym c.is_marked.ensures ∙ c.if-is_marked.false, sym c.is_marked-2.ensures ∙ c.if-is_marked-2.false, sym c.is_operator.ensures ∙ c.if-is_operator.true)

pub returns : goal.returns
unfolding class_of
returns c = rw (sym c.begins_number.ensures ∙ c.if-begins_number.false, sym c.is_name.ensures ∙ c.if-is_name.false, sym c.is_marked.ensures ∙ c.if-is_marked.false, sym c.is_marked-2.ensures ∙ c.if-is_marked-2.false, sym c.is_operator.ensures ∙ c.if-is_operator.false)
