use mathlib.Core.Bool.{not}
use mathlib.Core.Path.{ap}
use Rattle.domain_preparing.proofs.Effecting.{begun_within, turned_false, effects_spent, effects_out, effects_last, effects_step, open_none, open_cons}
use native.Mathlib.Omega.{arith}
use mathlib.Core.Path.{sym, ◌∙◌}
use Prim.Native.Nat.{◌-◌}
use Rattle.domain_stored_meaning.specs.Decode.{effects_at}
use Rattle.domain_preparing.proofs.Walking.{walk_start, walk_end, walk_step}
use Rattle.domain_preparing.proofs.effects.put_part.Goals as goal

pub loop-left-init : goal.loop-left-init
loop-left-init c = (omega arith, omega arith, walk_start _ _ _ _)

pub shape_of-rows-then-code-i : goal.shape_of-rows-then-code-i
shape_of-rows-then-code-i c = c.loop-left.invariant.2.toward.same

pub returns-then-code-i : goal.returns-then-code-i
returns-then-code-i c = (walk_end _ _ _ _ c.loop-left.invariant.2 (effects_out c.args.code.now c.loop-left.i c.loop-left.left c.if-code-i.true) (open_none _ _ _), record { near = omega arith; few = omega arith })

pub shape_of-rows-then-not-begins_effect : goal.shape_of-rows-then-not-begins_effect
shape_of-rows-then-not-begins_effect c = c.loop-left.invariant.2.toward.same

pub returns-then-not-begins_effect : goal.returns-then-not-begins_effect
returns-then-not-begins_effect c = (walk_end _ _ _ _ c.loop-left.invariant.2 (effects_last c.args.code.now c.loop-left.i c.loop-left.left c.loop-left-test.true (omega arith) c.cell-tag.ensures.0 c.begins_effect.ensures (ap not c.if-not-begins_effect.true)) (open_none _ _ _), record { near = omega arith; few = omega arith })

pub put_effect-e-requires : goal.put_effect-e-requires
put_effect-e-requires c = let w = begun_within _ (sym c.begins_effect.ensures ∙ turned_false _ (ap not c.if-not-begins_effect.false)) in (omega arith, w.0, w.1, record { near = omega arith; left = omega arith })

pub loop-left-preserved : goal.loop-left-preserved
loop-left-preserved c = (omega arith, omega arith, walk_step _ _ _ _ c.loop-left.invariant.2 _ (λ j. effects_at (c.loop-left.left - 1) c.args.code.now j) (effects_step c.args.code.now c.loop-left.i c.loop-left.left c.loop-left-test.true (omega arith) c.cell-tag.ensures.0 c.begins_effect.ensures (ap not c.if-not-begins_effect.false)) (open_cons _ _ _) c.put_effect-e.ensures.0)

pub shape_of-rows : goal.shape_of-rows
shape_of-rows c = c.loop-left.invariant.2.toward.same

pub returns : goal.returns
returns c = (walk_end _ _ _ _ c.loop-left.invariant.2 (effects_spent c.args.code.now c.loop-left.i c.loop-left.left (omega arith)) (open_none _ _ _), record { near = omega arith; few = omega arith })
