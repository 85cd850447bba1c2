use Rattle.std.proofs.lemmas.Result.{err_from_is_err_and}
use borrow.Enum.Refused.{opened}
use mathlib.Core.Path.{refl, sym, ◌∙◌}
use native.Mathlib.Omega.{arith}
use borrow.Author.Rules.{rules}
use Rattle.domain_due.proofs.Dues.{close_in}
use Rattle.domain_expressions.proofs.Ends.{spent_refused}
use Rattle.domain_expressions.proofs.Operands.{spent_at}
use Rattle.domain_timed_parts.specs.Bodies.{body_of}
use Rattle.domain_timed_parts.proofs.Bodied.{spent_by}
use Rattle.domain_timed_parts.proofs.Listed.{onward_start, onward_close, onward_refused, onward_more}
use Rattle.domain_timed_parts.proofs.timed.parts_to.Goals as goal

pub loop-next-init : goal.loop-next-init
loop-next-init c = (omega arith, c.requires.0, omega arith, omega arith, λ x k h e. onward_start _ _ (body_of _ _ x) _ k c.args.left _ _ _ e, refl)

pub returns-in-Close : goal.returns-in-Close
returns-in-Close c = let q = close_in _ _ c.loop-next.invariant.1 _ _ (sym c.token_at-t.ensures ∙ c.in-Close.is) in (λ x k h e. onward_close _ _ (body_of _ _ x) _ k c.args.left _ _ _ _ _ _ _ (c.loop-next.invariant.4 x k h e) _ _ (sym c.token_at-t.ensures ∙ c.in-Close.is), spent_by 0 _ _ _ _ _ _ (omega (arith, q.0, c.loop-next.invariant.0)) q.1 c.loop-next.invariant.2 (omega (arith, q.0, c.loop-next.invariant.3)))

pub part_at-requires : goal.part_at-requires
part_at-requires c = (c.loop-next.invariant.1, c.requires.1, omega (arith, c.loop-next.invariant.0, c.loop-next.invariant.1, c.loop-next.invariant.3, c.requires.2))

pub returns-in_err-after : goal.returns-in_err-after
returns-in_err-after c = let p = err_from_is_err_and c.from_residual.result c.from_residual.ensures.1 in rw (p.1, p.2, ← c.in_err-after.was) ((λ x k h e. onward_refused _ _ (body_of _ _ x) _ k c.args.left _ _ _ _ _ _ _ (c.loop-next.invariant.4 x k h e) _ c.token_at-t.ensures (opened c.in_default.in_default-own.keys2) _ _ (c.part_at.ensures.0 x h) _ _ c.in_err-after.was, spent_refused _ _ _ _ _ _ _ c.in_err-after.was))

pub loop-next-smaller : goal.loop-next-smaller
loop-next-smaller c = let w = spent_at 0 _ _ _ _ _ _ _ c.in_ok-after.was c.part_at.ensures.1 in omega (arith, w.0, w.1)

pub loop-next-preserved : goal.loop-next-preserved
loop-next-preserved c = let w = spent_at 0 _ _ _ _ _ _ _ c.in_ok-after.was c.part_at.ensures.1 in (omega (arith, w.0, c.loop-next.invariant.0), w.1, omega (arith, w.2, c.loop-next.invariant.2), omega (arith, w.3, c.loop-next.invariant.3), λ x k h e. onward_more _ _ (body_of _ _ x) _ k c.args.left _ _ _ _ _ _ _ (c.loop-next.invariant.4 x k h e) _ c.token_at-t.ensures (opened c.in_default.in_default-own.keys2) _ _ (c.part_at.ensures.0 x h) _ _ _ c.in_ok-after.was w.0 w.1, search rules)
