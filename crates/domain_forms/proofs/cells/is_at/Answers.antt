use Rattle.domain_forms.proofs.Reading.{at_start_lem, over_all, not_at_end, at_end}
use Rattle.domain_forms.proofs.cells.is_at.Goals as goal

pub returns-then-time-eq1 : goal.returns-then-time-eq1
returns-then-time-eq1 c = at_start_lem _ _ c.if-time-eq1.true

pub returns-then-time-eq2 : goal.returns-then-time-eq2
returns-then-time-eq2 c = over_all _ _ c.if-time-eq2.true

pub returns-then-tag-eq1 : goal.returns-then-tag-eq1
returns-then-tag-eq1 c = not_at_end _ _ c.if-time-eq1.false c.if-time-eq2.false c.if-tag-eq1.true

pub returns : goal.returns
returns c = at_end _ _ c.if-time-eq1.false c.if-time-eq2.false c.if-tag-eq1.false
