use Rattle.std.specs.Prelude.{Err}
use borrow.Enum.Refused.{opened}
use mathlib.Core.Path.{refl, sym, ap, ◌∙◌}
use Rattle.plan_lines.specs.Knowing.{objects_in}
use Rattle.plan_lines.proofs.Marks.{named_else, named_missing, named_found}
use Rattle.text_tokens.proofs.Words.{word_is}
use Rattle.plan_lines.proofs.reading.object_at.Goals as goal

pub returns-in_default : goal.returns-in_default
returns-in_default c = named_else c.args.text.now (objects_in c.args.tables.now c.args.counts) c.args.t (Err c.not_due.result) (opened c.in_default.in_default-own.keys2) (ap Err c.not_due.ensures)

pub returns-in_default-object_of : goal.returns-in_default-object_of
returns-in_default-object_of c = named_missing c.args.text.now (objects_in c.args.tables.now c.args.counts) c.args.t _ _ _ c.in-Word.is (rw (c.word_of.ensures ∙ word_is _ _ _ _ _ refl) at (sym c.object_of.ensures ∙ c.in_default-object_of.is))

pub returns : goal.returns
returns c = named_found c.args.text.now (objects_in c.args.tables.now c.args.counts) c.args.t _ _ _ _ c.in-Word.is (rw (c.word_of.ensures ∙ word_is _ _ _ _ _ refl) at (sym c.object_of.ensures ∙ c.in-Some.is))
