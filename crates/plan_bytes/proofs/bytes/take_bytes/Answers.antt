use Prim.Native.Nat.{◌+◌}
use mathlib.Core.Path.{sym, ap, ◌∙◌}
use native.Mathlib.Omega.{arith}
use lib.ListN.{length, length-drop}
use lib.Seq.{length-take-le}
use borrow.Author.Rules.{part_to_end}
use Rattle.domain_stored_meaning.specs.Entries.{signed_in}
use Rattle.happening_state.specs.States.{state_in}
use Rattle.plan_lines.specs.Knowing.{known_in}
use Rattle.plan_running.specs.Running.{rules_in, queue_held}
use Rattle.plan_bytes.proofs.Ends.{ends_of}
use Rattle.plan_bytes.proofs.Taking.{held_line}
use Rattle.plan_bytes.proofs.bytes.take_bytes.Goals as goal

pub slice_bounds-take_ended-end : goal.slice_bounds-take_ended-end
slice_bounds-take_ended-end c = let k = c.loop-work in let e = ends_of _ _ _ c.ends_line.ensures c.loop-work-test.true in
    sym (length-take-le k.end k.rest.now (omega (arith, e.within)))

pub take_ended-next-requires : goal.take_ended-next-requires
take_ended-next-requires c = let k = c.loop-work in let v = k.invariant in let e = ends_of _ _ _ c.ends_line.ensures c.loop-work-test.true in
    (c.requires.0, c.requires.1, v.1, e.goes, v.2, omega (arith, e.room, v.1.2, length-take-le k.end k.rest.now (omega (arith, e.within))), c.requires.5, v.7)

pub overflow_add-rest : goal.overflow_add-rest
overflow_add-rest c = let k = c.loop-work in let e = ends_of _ _ _ c.ends_line.ensures c.loop-work-test.true in
    omega (arith, e.room)

pub slice_bounds-rest-count : goal.slice_bounds-rest-count
slice_bounds-rest-count c = let k = c.loop-work in let e = ends_of _ _ _ c.ends_line.ensures c.loop-work-test.true in
    omega (arith, e.within)

pub slice_bounds-rest-start : goal.slice_bounds-rest-start
slice_bounds-rest-start c = let k = c.loop-work in let e = ends_of _ _ _ c.ends_line.ensures c.loop-work-test.true in
    omega (arith, e.within)

pub loop-work-smaller : goal.loop-work-smaller
loop-work-smaller c = let k = c.loop-work in let e = ends_of _ _ _ c.ends_line.ensures c.loop-work-test.true in
    let gone = k.end + 1 in
    omega (arith, e.within, length-drop gone k.rest.now, ap length (part_to_end k.rest.now gone))

pub loop-work-preserved : goal.loop-work-preserved
loop-work-preserved c = let a = c.args in let k = c.loop-work in let v = k.invariant in let next = c.take_ended-next in
    let e = ends_of _ _ _ c.ends_line.ensures c.loop-work-test.true in
    let behind = part_to_end k.rest.now (k.end + 1) in (
      c.line_end-end-in-loop-work.ensures,
      rw c.counting-p.ensures (next.ensures.1.0, next.ensures.1.1, omega arith, omega arith, omega (arith, next.ensures.2, e.low)),
      next.ensures.3,
      λ goal s. rw (c.counting-p.ensures, behind)
          (held_line (rules_in a.rows.now goal (signed_in a.heads.now a.acting) s) (known_in a.tables.now a.counts a.heads.now a.acting a.rows.now) (state_in k.facts k.numbers) k.line (queue_held k.work) k.p k.rest.now
          e.goes e.low v.1.2 v.2 k.end v.0 e.within (omega (arith, e.room, v.1.2)) _ next.new.line _ _
          (next.ensures.0 goal s) next.ensures.2 ∙ v.3 goal s),
      omega (arith, v.4),
      omega (arith, v.5),
      omega (arith, v.6),
      next.ensures.4,
    )

pub returns : goal.returns
returns c = let a = c.args in let k = c.loop-work in let v = k.invariant in
    (λ goal s. c.take_rest.ensures.0 (rules_in a.rows.now goal (signed_in a.heads.now a.acting) s) (state_in k.facts k.numbers) (queue_held k.work) ∙ v.3 goal s, c.take_rest.ensures.1 a.acting (queue_held k.work) v.1, c.take_rest.ensures.2)
