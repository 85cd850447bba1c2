use mathlib.Core.Bool.{false≢true}
use mathlib.Core.Path.{ap, ◌∙◌}
use native.Mathlib.Omega.{arith}
use lib.ListN.{length}
use lib.Seq.{length-sets}
use Rattle.check_calls.proofs.Longer.{added}
use Rattle.check_calls.proofs.adding.add_part.Goals as goal

pub returns-then-refused : goal.returns-then-refused
returns-then-refused c = (c.requires, λ e. absurd (false≢true e))

pub returns-then-end-part : goal.returns-then-end-part
returns-then-end-part c = (c.requires, λ e. absurd (false≢true e))

pub copy-requires : goal.copy-requires
copy-requires c = omega (arith, c.line_end-end.ensures, c.requires)

pub overflow_add-result : goal.overflow_add-result
overflow_add-result c = omega (arith, c.line_end-end.ensures)

pub returns : goal.returns
returns c = (
  ap length c.copy.ensures ∙ length-sets c.args.line.now c.args.p.used c.args.part.now ∙ c.requires,
  λ _. added c.args.p c.args.line.now c.args.part.now c.copy.new.rows c.if-refused.false c.if-p-gt1000000.false c.if-used-gt256.false c.requires
      (omega (arith, c.line_end-end.ensures)) (omega (arith, c.line_end-end.ensures)) c.copy.ensures,
)
