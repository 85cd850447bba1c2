use Rattle.std.proofs.lemmas.Result.{err_from_is_err_and}
use Rattle.std.specs.Prelude.{Ok, Err}
use borrow.Enum.Refused.{opened}
use mathlib.Core.Path.{refl, sym, ap, ◌∙◌}
use mathlib.Core.Bool.{true}
use native.Mathlib.Omega.{arith}
use borrow.Author.Rules.{rules}
use Rattle.domain_meaning.specs.Effects.{effect}
use Rattle.domain_due.proofs.Dues.{close_in}
use Rattle.domain_expressions.proofs.Ends.{written_refused, spent_refused}
use Rattle.domain_expressions.proofs.Operands.{spent_at}
use Rattle.domain_stored_meaning.specs.Cells.{effects_cells}
use Rattle.domain_effects.proofs.Facts.{spent_from, spent_done}
use Rattle.domain_effects.proofs.Listing.{onward_start, onward_closed, onward_refused, onward_more}
use Rattle.domain_effects.proofs.Whole.{all_place, not_place, change_place, fact_place, whole_all, whole_not, whole_change, whole_fact, whole_refused}
use Prim.Native.Nat.{◌-◌}
use Rattle.domain_effects.proofs.trees.+effect_at_effects_to.Goals as goal

pub effect_at-begun_at-requires : goal.effect_at-begun_at-requires
effect_at-begun_at-requires t c = c.requires.0

pub effect_at-overflow_sub-d : goal.effect_at-overflow_sub-d
effect_at-overflow_sub-d t c = let w = all_place _ _ _ _ _ (c.in_ok-head.was ∙ ap Ok c.in-All.is) c.begun_at.ensures.1 in omega (arith, w.2)

pub effect_at-effects_to-requires : goal.effect_at-effects_to-requires
effect_at-effects_to-requires t c = let w = all_place _ _ _ _ _ (c.in_ok-head.was ∙ ap Ok c.in-All.is) c.begun_at.ensures.1 in (omega (arith, c.decreases, w.0, w.1), (w.1, c.requires.1, omega (arith, w.0, w.1, c.requires.2)))

pub effect_at-overflow_sub-d-in-Not : goal.effect_at-overflow_sub-d-in-Not
effect_at-overflow_sub-d-in-Not t c = let w = not_place _ _ _ _ _ (c.in_ok-head.was ∙ ap Ok c.in-Not.is) c.begun_at.ensures.1 in omega (arith, w.2)

pub effect_at-deletion_at-requires : goal.effect_at-deletion_at-requires
effect_at-deletion_at-requires t c = let w = not_place _ _ _ _ _ (c.in_ok-head.was ∙ ap Ok c.in-Not.is) c.begun_at.ensures.1 in (w.1, c.requires.1, omega (arith, w.0, w.1, c.requires.2))

pub effect_at-overflow_sub-d-in-Change : goal.effect_at-overflow_sub-d-in-Change
effect_at-overflow_sub-d-in-Change t c = let w = change_place _ _ _ _ _ _ _ (c.in_ok-head.was ∙ ap Ok c.in-Change.is) c.begun_at.ensures.1 in omega (arith, w.2)

pub effect_at-change_at-requires : goal.effect_at-change_at-requires
effect_at-change_at-requires t c = let w = change_place _ _ _ _ _ _ _ (c.in_ok-head.was ∙ ap Ok c.in-Change.is) c.begun_at.ensures.1 in (w.1, c.requires.1, w.3, omega (arith, w.0, w.1, c.requires.2))

pub effect_at-overflow_sub-d-in-Fact : goal.effect_at-overflow_sub-d-in-Fact
effect_at-overflow_sub-d-in-Fact t c = let w = fact_place _ _ _ _ _ _ (c.in_ok-head.was ∙ ap Ok c.in-Fact.is) c.begun_at.ensures.1 in omega (arith, w.2)

pub effect_at-becomes_at-requires : goal.effect_at-becomes_at-requires
effect_at-becomes_at-requires t c = let w = fact_place _ _ _ _ _ _ (c.in_ok-head.was ∙ ap Ok c.in-Fact.is) c.begun_at.ensures.1 in (w.1, c.requires.1, omega arith, omega (arith, w.0, w.1, c.requires.2))

pub effect_at-returns-in-All : goal.effect_at-returns-in-All
effect_at-returns-in-All t c = let w = all_place _ _ _ _ _ (c.in_ok-head.was ∙ ap Ok c.in-All.is) c.begun_at.ensures.1 in (λ x h. whole_all _ _ x (effect _ _ x) c.args.left _ _ (c.begun_at.ensures.0 x c.args.left) _ _ _ _ _ (c.in_ok-head.was ∙ ap Ok c.in-All.is) (c.effects_to.ensures.0 x _ h (omega arith)), spent_from _ _ _ _ _ _ _ _ (omega (arith, w.0)) (omega arith) (omega (arith, w.0)) c.effects_to.ensures.1)

pub effect_at-returns-in-Not : goal.effect_at-returns-in-Not
effect_at-returns-in-Not t c = let w = not_place _ _ _ _ _ (c.in_ok-head.was ∙ ap Ok c.in-Not.is) c.begun_at.ensures.1 in (λ x h. whole_not _ _ x (effect _ _ x) c.args.left _ _ (c.begun_at.ensures.0 x c.args.left) _ _ _ _ _ (c.in_ok-head.was ∙ ap Ok c.in-Not.is) (c.deletion_at.ensures.0 x h), spent_from _ _ _ _ _ _ _ _ (omega (arith, w.0)) (omega arith) (omega (arith, w.0)) c.deletion_at.ensures.1)

pub effect_at-returns-in-Change : goal.effect_at-returns-in-Change
effect_at-returns-in-Change t c = let w = change_place _ _ _ _ _ _ _ (c.in_ok-head.was ∙ ap Ok c.in-Change.is) c.begun_at.ensures.1 in (λ x h. whole_change _ _ x (effect _ _ x) c.args.left _ _ (c.begun_at.ensures.0 x c.args.left) _ _ _ _ _ _ _ (c.in_ok-head.was ∙ ap Ok c.in-Change.is) (λ y q. c.change_at.ensures.0 x y h q), spent_from _ _ _ _ _ _ _ _ (omega (arith, w.0)) (omega arith) (omega (arith, w.0)) c.change_at.ensures.1)

pub effect_at-returns-in-Fact : goal.effect_at-returns-in-Fact
effect_at-returns-in-Fact t c = let w = fact_place _ _ _ _ _ _ (c.in_ok-head.was ∙ ap Ok c.in-Fact.is) c.begun_at.ensures.1 in (λ x h. whole_fact _ _ x (effect _ _ x) c.args.left _ _ (c.begun_at.ensures.0 x c.args.left) _ _ _ _ _ _ (c.in_ok-head.was ∙ ap Ok c.in-Fact.is) (c.becomes_at.ensures.0 x true h refl), spent_from _ _ _ _ _ _ _ _ (omega (arith, w.0)) (omega arith) (omega (arith, w.0)) c.becomes_at.ensures.1)

pub effect_at-returns-in_err-head : goal.effect_at-returns-in_err-head
effect_at-returns-in_err-head t c = let e = err_from_is_err_and c.from_residual.result c.from_residual.ensures.1 in rw (e.1, e.2) (λ x h. written_refused effects_cells _ _ _ _ _ _ _ (whole_refused _ _ x (effect _ _ x) c.args.left _ _ (c.begun_at.ensures.0 x c.args.left) c.args.code.now c.args.used (Err c.in_err-head.field-0.0) c.args.code.now _ _ c.in_err-head.was) refl, spent_refused _ _ _ _ _ _ _ refl)

pub effects_to-loop-next-init : goal.effects_to-loop-next-init
effects_to-loop-next-init t c = (omega arith, c.requires.0, refl, omega arith, omega arith, λ x k h q. onward_start _ _ _ _ _ _ _ _ q)

pub effects_to-returns-in-Close : goal.effects_to-returns-in-Close
effects_to-returns-in-Close t c = let w = close_in _ _ c.loop-next.invariant.1 _ _ (sym c.token_at-t.ensures ∙ c.in-Close.is) in (λ x k h q. onward_closed _ _ (effect _ _ x) _ _ c.args.left _ k _ _ _ _ (c.loop-next.invariant.5 x k h q) _ _ (sym c.token_at-t.ensures ∙ c.in-Close.is), spent_done _ _ _ _ _ _ (omega (arith, w.0, c.loop-next.invariant.0)) w.1 c.loop-next.invariant.3 (omega (arith, c.loop-next.invariant.4, w.0)))

pub effects_to-effect_at-requires : goal.effects_to-effect_at-requires
effects_to-effect_at-requires t c = (omega (arith, c.decreases, c.loop-next.invariant.0, c.loop-next.invariant.1), (c.loop-next.invariant.1, c.requires.1, omega (arith, c.loop-next.invariant.0, c.loop-next.invariant.1, c.loop-next.invariant.4, c.requires.2)))

pub effects_to-returns-in_err-after : goal.effects_to-returns-in_err-after
effects_to-returns-in_err-after t c = let e = err_from_is_err_and c.from_residual.result c.from_residual.ensures.1 in rw (e.1, e.2, ← c.in_err-after.was) (λ x k h q. onward_refused _ _ (effect _ _ x) _ _ c.args.left _ k _ _ _ _ (c.loop-next.invariant.5 x k h q) (rw c.token_at-t.ensures at (opened c.in_default.in_default-own.keys2)) _ _ (c.effect_at.ensures.0 x h) _ _ c.in_err-after.was, spent_refused _ _ _ _ _ _ _ c.in_err-after.was)

pub effects_to-loop-next-smaller : goal.effects_to-loop-next-smaller
effects_to-loop-next-smaller t c = let w = spent_at 0 _ _ _ _ _ _ _ c.in_ok-after.was c.effect_at.ensures.1 in omega (arith, w.0, w.1)

pub effects_to-loop-next-preserved : goal.effects_to-loop-next-preserved
effects_to-loop-next-preserved t c = let w = spent_at 0 _ _ _ _ _ _ _ c.in_ok-after.was c.effect_at.ensures.1 in (omega (arith, w.0, c.loop-next.invariant.0), w.1, search rules, omega (arith, w.2, c.loop-next.invariant.3), omega (arith, w.3, c.loop-next.invariant.4), λ x k h q. onward_more _ _ (effect _ _ x) _ _ c.args.left _ k _ _ _ _ (c.loop-next.invariant.5 x k h q) (rw c.token_at-t.ensures at (opened c.in_default.in_default-own.keys2)) _ _ (c.effect_at.ensures.0 x h) _ _ _ c.in_ok-after.was w.0 w.1)
