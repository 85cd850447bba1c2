use mathlib.Core.Path.{sym, ◌∙◌}
use Rattle.domain_conditions.proofs.Equals.{compared_objects, compared_numbers}
use Rattle.domain_conditions.proofs.singles.compared_at.Goals as goal

pub returns-then-objects_due : goal.returns-then-objects_due
returns-then-objects_due c = (λ x h. rw (compared_objects _ _ x _ c.args.left _ _ (sym c.objects_due.ensures ∙ c.if-objects_due.true)) (c.same_at.ensures.0 x h), c.same_at.ensures.1)

pub returns : goal.returns
returns c = (λ x h. rw (compared_numbers _ _ x _ c.args.left _ _ (sym c.objects_due.ensures ∙ c.if-objects_due.false)) (c.comparison_at.ensures.0 x h), c.comparison_at.ensures.1)
