use mathlib.Core.Path.{refl}
use Prim.Native.Nat.{◌+◌, ◌-◌}
use native.Mathlib.Omega.{arith}
use borrow.Author.Rules.{rules}
use lib.Dec.{eqb}
use Rattle.domain_prepared_meaning.specs.Decode.{expr_at}
use Rattle.happening_forms.specs.Summed.{four_at}
use Rattle.happening_expressions.proofs.Shapes.{expr_none, expr_past, expr_leaf, expr_minus, expr_two}
use Rattle.happening_meetings.proofs.Reading.{walk_none, walk_same, walk_minus, walk_two}
use Rattle.happening_meetings.proofs.walks.+walk_expr.Goals.{then-depth-eq0-via-then-depth-eq0, then-depth-eq0-via-else-depth-eq0+then-rows-at}
use Rattle.happening_meetings.proofs.walks.+walk_expr.Goals as goal

pub returns-then-depth-eq0 : goal.returns-then-depth-eq0
returns-then-depth-eq0 t c =
    let none = walk_none (four_at c.args.objects.now c.args.k) c.args.mode c.args.marks.now in
    elim c.then-depth-eq0.branch [
      | then-depth-eq0-via-then-depth-eq0 w ↦ none (expr_none c.args.rows.now c.args.at c.args.depth w.if-depth-eq0.true)
      | then-depth-eq0-via-else-depth-eq0+then-rows-at w ↦ none (expr_past c.args.rows.now c.args.at c.args.depth w.if-rows-at.true)
    ]

pub returns-then-tag-gt2 : goal.returns-then-tag-gt2
returns-then-tag-gt2 t c = walk_same (four_at c.args.objects.now c.args.k) c.args.mode c.args.marks.now (expr_leaf c.args.rows.now c.args.at c.args.depth c.if-depth-eq0.false (omega arith) c.cell-tag.ensures.0 c.if-tag-gt2.true) c.leaf.ensures

pub walk_expr-a-requires : goal.walk_expr-a-requires
walk_expr-a-requires t c = (omega arith, search rules)

pub returns-then-tag-eq0 : goal.returns-then-tag-eq0
returns-then-tag-eq0 t c = walk_minus (four_at c.args.objects.now c.args.k) c.args.mode c.args.marks.now (expr_at (c.args.depth - 1) c.args.rows.now (c.args.at + 1)) (expr_minus c.args.rows.now c.args.at c.args.depth c.if-depth-eq0.false (omega arith) c.cell-tag.ensures.0 c.if-tag-eq0.true) c.walk_expr-a.ensures

pub walk_expr-b-requires : goal.walk_expr-b-requires
walk_expr-b-requires t c = (omega arith, search rules)

pub returns : goal.returns
returns t c = walk_two (four_at c.args.objects.now c.args.k) c.args.mode c.args.marks.now (eqb c.cell-tag.result 1) (expr_at (c.args.depth - 1) c.args.rows.now (c.args.at + 1)) (expr_at (c.args.depth - 1) c.args.rows.now) (expr_two c.args.rows.now c.args.at c.args.depth c.if-depth-eq0.false (omega arith) c.cell-tag.ensures.0 c.if-tag-eq0.false (omega arith)) c.walk_expr-a.ensures c.walk_expr-b.ensures refl
