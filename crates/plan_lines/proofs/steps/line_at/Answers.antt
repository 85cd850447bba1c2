use borrow.Enum.Refused.{opened}
use mathlib.Core.Path.{sym, ◌∙◌}
use Rattle.plan_lines.specs.Knowing.{known_in}
use Rattle.plan_lines.proofs.Plain.{plan_small}
use Rattle.plan_lines.proofs.Acts.{line_blank, line_stepped}
use Rattle.plan_lines.proofs.steps.line_at.Goals as goal

pub returns-in-End : goal.returns-in-End
returns-in-End c = line_blank _ (known_in _ _ _ _ _) _ _ 0 c.args.acting _ (sym c.plan_token_at-t.ensures ∙ c.in-End.is)

pub step_from-requires : goal.step_from-requires
step_from-requires c = (c.requires.0, c.requires.1, rw c.plan_token_at-t.ensures (plan_small _ 0))

pub returns-in-Ok : goal.returns-in-Ok
returns-in-Ok c = rw c.in-Ok.is at (line_stepped _ (known_in _ _ _ _ _) _ _ 0 c.args.acting _ c.plan_token_at-t.ensures (opened c.in_default.in_default-own.keys2) _ c.step_from.ensures)

pub returns-in-Err : goal.returns-in-Err
returns-in-Err c = rw c.in-Err.is at (line_stepped _ (known_in _ _ _ _ _) _ _ 0 c.args.acting _ c.plan_token_at-t.ensures (opened c.in_default.in_default-own.keys2) _ c.step_from.ensures)
