use mathlib.Core.Path.{sym, ◌∙◌}
use native.Mathlib.Omega.{arith}
use native.Mathlib.Nat.{sub-zero}
use Rattle.text_words.proofs.Steps.{find_short, find_found, find_other, find_other_length, find_over}
use Rattle.text_words.proofs.names.find.Goals as goal
use Rattle.text_words.proofs.names.find.Goals.{then-size-w+else-same_word, else-size-w}

pub loop-i-init : goal.loop-i-init
loop-i-init c = (omega arith, omega arith, rw sub-zero)

pub returns-then-rows-at-lt-ROW : goal.returns-then-rows-at-lt-ROW
returns-then-rows-at-lt-ROW c = sym (c.loop-i.invariant.2 ∙ find_short c.args.rows.now c.args.w.now c.args.n c.loop-i.i c.loop-i.at c.loop-i-test.true c.if-rows-at-lt-ROW.true)

pub overflow_add-end : goal.overflow_add-end
overflow_add-end c = omega (arith, c.length_in-size.ensures)

pub slice_bounds-same_word-count : goal.slice_bounds-same_word-count
slice_bounds-same_word-count c = omega (arith, c.length_in-size.ensures)

pub slice_bounds-same_word-start : goal.slice_bounds-same_word-start
slice_bounds-same_word-start c = omega (arith, c.length_in-size.ensures)

pub slice_bounds-same_word-end : goal.slice_bounds-same_word-end
slice_bounds-same_word-end c = omega (arith, c.length_in-size.ensures)

pub returns-then-same_word : goal.returns-then-same_word
returns-then-same_word c = sym (c.loop-i.invariant.2 ∙ find_found _ _ _ _ _ _ c.loop-i-test.true (omega arith) c.length_in-size.ensures (sym c.same_word.ensures ∙ c.if-same_word.true))

pub loop-i-preserved : goal.loop-i-preserved
loop-i-preserved c = (
  omega arith,
  omega arith,
  c.loop-i.invariant.2 ∙ elim c.if-size-w.branch [
    | then-size-w+else-same_word w ↦ find_other c.args.rows.now c.args.w.now c.args.n c.loop-i.i c.loop-i.at c.length_in-size.result c.loop-i-test.true (omega arith) c.length_in-size.ensures (sym w.same_word.ensures ∙ w.if-same_word.false)
    | else-size-w w ↦ find_other_length c.args.rows.now c.args.w.now c.args.n c.loop-i.i c.loop-i.at c.length_in-size.result c.loop-i-test.true (omega arith) c.length_in-size.ensures w.if-size-w.false
  ],
)

pub returns : goal.returns
returns c = sym (c.loop-i.invariant.2 ∙ find_over c.args.rows.now c.args.w.now c.args.n c.loop-i.i c.loop-i.at c.loop-i-test.false)
