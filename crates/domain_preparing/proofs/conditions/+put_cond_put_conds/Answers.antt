use native.Mathlib.Omega.{arith}
use Prim.Native.Nat.{◌-◌}
use Rattle.domain_stored_meaning.specs.Decode.{conds_at, cond_at}
use Rattle.domain_preparing.proofs.Expressing.{copies_as}
use Rattle.domain_preparing.proofs.Groups.{cond_none, cond_past, cond_group, cond_single, conds_spent, conds_out, conds_last, conds_step}
use Rattle.domain_preparing.proofs.Walking.{walk_start, walk_end, walk_step}
use Rattle.domain_preparing.proofs.Testing.{copies_none, copies_group, listed_none, listed_cons}
use Rattle.domain_preparing.proofs.conditions.+put_cond_put_conds.Goals as goal

pub put_cond-returns-then-depth-eq0 : goal.put_cond-returns-then-depth-eq0
put_cond-returns-then-depth-eq0 t c = (copies_none _ _ _ c.args.rows.now _ (cond_none c.args.code.now c.args.at c.args.depth c.if-depth-eq0.true), record { near = omega arith; few = omega arith })

pub put_cond-returns-then-code-at : goal.put_cond-returns-then-code-at
put_cond-returns-then-code-at t c = (copies_none _ _ _ c.args.rows.now _ (cond_past c.args.code.now c.args.at c.args.depth c.if-code-at.true), record { near = omega arith; few = omega arith })

pub put_cond-put_conds-requires : goal.put_cond-put_conds-requires
put_cond-put_conds-requires t c = (omega arith, record { near = omega arith; left = omega arith })

pub put_cond-returns-then-tag-eq1 : goal.put_cond-returns-then-tag-eq1
put_cond-returns-then-tag-eq1 t c = (copies_group _ _ _ (cond_group c.args.code.now c.args.at c.args.depth c.if-depth-eq0.false (omega arith) c.cell-tag.ensures.0 c.if-tag-eq1.true) c.put_conds.ensures.0, record { near = omega arith; few = omega arith })

pub put_cond-put_single-requires : goal.put_cond-put_single-requires
put_cond-put_single-requires t c = (omega arith, omega arith, record { near = omega arith; left = omega arith })

pub put_cond-returns : goal.put_cond-returns
put_cond-returns t c = (copies_as (cond_single c.args.code.now c.args.at c.args.depth c.if-depth-eq0.false (omega arith) c.cell-tag.ensures.0 c.if-tag-eq1.false) c.put_single.ensures.0, c.put_single.ensures.1)

pub put_conds-loop-left-init : goal.put_conds-loop-left-init
put_conds-loop-left-init t c = (omega arith, omega arith, walk_start _ _ _ _)

pub put_conds-shape_of-rows-then-code-i : goal.put_conds-shape_of-rows-then-code-i
put_conds-shape_of-rows-then-code-i t c = c.loop-left.invariant.2.toward.same

pub put_conds-returns-then-code-i : goal.put_conds-returns-then-code-i
put_conds-returns-then-code-i t c = (walk_end _ _ _ _ c.loop-left.invariant.2 (conds_out (cond_at c.args.depth c.args.code.now) c.args.code.now c.loop-left.i c.loop-left.left c.if-code-i.true) (listed_none _ _ _), record { near = omega arith; few = omega arith })

pub put_conds-shape_of-rows-then-cell-eq0 : goal.put_conds-shape_of-rows-then-cell-eq0
put_conds-shape_of-rows-then-cell-eq0 t c = c.loop-left.invariant.2.toward.same

pub put_conds-returns-then-cell-eq0 : goal.put_conds-returns-then-cell-eq0
put_conds-returns-then-cell-eq0 t c = (walk_end _ _ _ _ c.loop-left.invariant.2 (conds_last (cond_at c.args.depth c.args.code.now) c.args.code.now c.loop-left.i c.loop-left.left c.loop-left-test.true (omega arith) c.cell.ensures.0 c.if-cell-eq0.true) (listed_none _ _ _), record { near = omega arith; few = omega arith })

pub put_conds-put_cond-c-requires : goal.put_conds-put_cond-c-requires
put_conds-put_cond-c-requires t c = (omega arith, record { near = omega arith; left = omega arith })

pub put_conds-loop-left-preserved : goal.put_conds-loop-left-preserved
put_conds-loop-left-preserved t c = (omega arith, omega arith, walk_step _ _ _ _ c.loop-left.invariant.2 _ (λ j. conds_at (cond_at c.args.depth c.args.code.now) (c.loop-left.left - 1) c.args.code.now j) (conds_step (cond_at c.args.depth c.args.code.now) c.args.code.now c.loop-left.i c.loop-left.left c.loop-left-test.true (omega arith) c.cell.ensures.0 c.if-cell-eq0.false) (listed_cons _ _ _) c.put_cond-c.ensures.0)

pub put_conds-shape_of-rows : goal.put_conds-shape_of-rows
put_conds-shape_of-rows t c = c.loop-left.invariant.2.toward.same

pub put_conds-returns : goal.put_conds-returns
put_conds-returns t c = (walk_end _ _ _ _ c.loop-left.invariant.2 (conds_spent (cond_at c.args.depth c.args.code.now) c.args.code.now c.loop-left.i c.loop-left.left (omega arith)) (listed_none _ _ _), record { near = omega arith; few = omega arith })
