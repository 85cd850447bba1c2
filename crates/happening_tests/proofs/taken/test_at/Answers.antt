use native.Mathlib.Omega.{arith}
use Rattle.happening_forms.specs.Summed.{four_at}
use Rattle.happening_tests.proofs.Rows.{row_past, row_low, row_high, row_same, row_fact, row_no_fact, row_compare, row_no_compare}
use Rattle.happening_tests.proofs.taken.test_at.Goals as goal

pub returns-then-rows-at : goal.returns-then-rows-at
returns-then-rows-at c = row_past c.args.rows.now (four_at c.args.objects.now c.args.k) c.args.at c.if-rows-at.true

pub returns-in-2-to-3 : goal.returns-in-2-to-3
returns-in-2-to-3 c = row_same c.args.rows.now (four_at c.args.objects.now c.args.k) c.args.at (omega arith) c.cell-tag.ensures.0 (omega arith) (omega arith) c.same.ensures

pub returns-in-4-to-7 : goal.returns-in-4-to-7
returns-in-4-to-7 c = row_fact c.args.rows.now (four_at c.args.objects.now c.args.k) c.args.at (omega arith) c.cell-tag.ensures.0 (omega arith) (omega arith) c.fact.ensures

pub returns-in-8-to-11 : goal.returns-in-8-to-11
returns-in-8-to-11 c = row_no_fact c.args.rows.now (four_at c.args.objects.now c.args.k) c.args.at (omega arith) c.cell-tag.ensures.0 (omega arith) (omega arith) c.fact-in-8-to-11.ensures

pub returns-in-12-to-16 : goal.returns-in-12-to-16
returns-in-12-to-16 c = row_compare c.args.rows.now (four_at c.args.objects.now c.args.k) c.args.at (omega arith) c.cell-tag.ensures.0 (omega arith) (omega arith)

pub returns-in-17-to-21 : goal.returns-in-17-to-21
returns-in-17-to-21 c = row_no_compare c.args.rows.now (four_at c.args.objects.now c.args.k) c.args.at (omega arith) c.cell-tag.ensures.0 (omega arith) (omega arith)

pub returns-in_default : goal.returns-in_default
returns-in_default c = row_low c.args.rows.now (four_at c.args.objects.now c.args.k) c.args.at (omega arith) c.cell-tag.ensures.0 (omega arith)

pub returns-in_default-2 : goal.returns-in_default-2
returns-in_default-2 c = row_high c.args.rows.now (four_at c.args.objects.now c.args.k) c.args.at (omega arith) c.cell-tag.ensures.0 (omega arith)
