use mathlib.Core.Path.{sym, ◌∙◌}
use native.Mathlib.Omega.{arith}
use Rattle.text_words.proofs.Steps.{space_within, in_start, in_found, in_other, in_none}
use Rattle.text_words.proofs.spelling.word_in.Goals as goal

pub loop-at-init : goal.loop-at-init
loop-at-init c = (omega arith, omega arith, in_start _ _)

pub slice_bounds-same_word-count : goal.slice_bounds-same_word-count
slice_bounds-same_word-count c = let q = space_within c.args.list.now c.loop-at.at (omega arith) in omega (arith, c.space_from-end.ensures)

pub slice_bounds-same_word-start : goal.slice_bounds-same_word-start
slice_bounds-same_word-start c = let q = space_within c.args.list.now c.loop-at.at (omega arith) in omega (arith, c.space_from-end.ensures)

pub slice_bounds-same_word-end : goal.slice_bounds-same_word-end
slice_bounds-same_word-end c = let q = space_within c.args.list.now c.loop-at.at (omega arith) in omega (arith, c.space_from-end.ensures)

pub returns-then-same_word : goal.returns-then-same_word
returns-then-same_word c = sym (c.loop-at.invariant.2 ∙ in_found _ _ _ _ (omega arith) (rw c.space_from-end.ensures at (sym c.same_word.ensures ∙ c.if-same_word.true)))

pub overflow_add-at : goal.overflow_add-at
overflow_add-at c = let q = space_within c.args.list.now c.loop-at.at (omega arith) in omega (arith, c.space_from-end.ensures)

pub loop-at-smaller : goal.loop-at-smaller
loop-at-smaller c = let q = space_within c.args.list.now c.loop-at.at (omega arith) in omega (arith, c.space_from-end.ensures)

pub loop-at-preserved : goal.loop-at-preserved
loop-at-preserved c = let q = space_within c.args.list.now c.loop-at.at (omega arith) in (omega (arith, c.space_from-end.ensures), omega (arith, c.space_from-end.ensures), c.loop-at.invariant.2 ∙ in_other c.args.list.now c.args.w.now c.loop-at.i c.loop-at.at (omega arith) (rw c.space_from-end.ensures at (sym c.same_word.ensures ∙ c.if-same_word.false)) ∙ rw c.space_from-end.ensures)

pub returns : goal.returns
returns c = sym (c.loop-at.invariant.2 ∙ in_none c.args.list.now c.args.w.now c.loop-at.i c.loop-at.at c.loop-at-test.false)
