use Prim.Native.Nat.{◌+◌, ◌-◌}
use native.Mathlib.Omega.{arith}
use Rattle.domain_prepared_meaning.specs.Decode.{form_at}
use Rattle.happening_forms.specs.Summed.{four_at}
use Rattle.happening_forms.proofs.Placing.{number_at}
use Rattle.happening_expressions.proofs.Shapes.{leaf_value, leaf_none, leaf_plain}
use Rattle.happening_meetings.proofs.Reading.{walk_plain, walk_value}
use Rattle.happening_meetings.proofs.walks.leaf.Goals as goal

pub returns-in-0-to-4 : goal.returns-in-0-to-4
returns-in-0-to-4 c = walk_plain (four_at c.args.objects.now c.args.k) c.args.mode c.args.marks.now (leaf_none c.args.rows.now c.args.at c.args.tag (omega arith)) c.leaf_end-next.ensures

pub returns-in-5-to-7 : goal.returns-in-5-to-7
returns-in-5-to-7 c = walk_value (four_at c.args.objects.now c.args.k) c.args.mode c.args.marks.now (leaf_value c.args.rows.now c.args.at c.args.tag (omega arith) (omega arith)) c.leaf_end-next.ensures (number_at (four_at c.args.objects.now c.args.k) (form_at c.args.rows.now (c.args.at + 1) (c.args.tag - 5)) c.index-i.ensures) c.number_cell.ensures.0 c.touch-found.ensures.0 c.touch-found.ensures.1

pub returns-in_default : goal.returns-in_default
returns-in_default c = walk_plain (four_at c.args.objects.now c.args.k) c.args.mode c.args.marks.now (leaf_plain c.args.rows.now c.args.at c.args.tag (omega arith)) c.leaf_end-next.ensures
