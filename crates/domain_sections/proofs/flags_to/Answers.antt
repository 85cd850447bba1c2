use borrow.Enum.Refused.{opened}
use mathlib.Core.Path.{refl, sym, ◌∙◌}
use native.Mathlib.Omega.{arith}
use Rattle.domain_due.proofs.Dues.{close_in, ahead_refused, ahead_by}
use Rattle.domain_sections.proofs.Frames.{flag_ahead, going_close, going_refused, going_on}
use Rattle.std.proofs.lemmas.Result.{err_from_is_err_and}
use Rattle.domain_sections.proofs.flags_to.Goals as goal

pub returns-in-Close : goal.returns-in-Close
returns-in-Close c = let w = close_in _ _ c.loop-p.invariant.1 _ _ (sym c.token_at-t.ensures ∙ c.in-Close.is) in (λ k h. going_close _ _ _ c.loop-p.invariant.2 _ _ (sym c.token_at-t.ensures ∙ c.in-Close.is) k h, ahead_by _ _ _ _ (omega arith) w.1)

pub returns-in_err-after : goal.returns-in_err-after
returns-in_err-after c =
    let p = err_from_is_err_and c.from_residual.result c.from_residual.ensures.1 in
    rw (p.1, p.2) (
      λ k h. going_refused _ _ _ c.loop-p.invariant.2 (rw c.token_at-t.ensures at (opened c.in_default.in_default-own.keys2)) _ (rw c.token_at-t.ensures at c.flag_of.ensures) _ _ c.in_err-after.was k h,
      ahead_refused _ _ _ _ _ refl,
    )

pub loop-p-smaller : goal.loop-p-smaller
loop-p-smaller c = let w = flag_ahead _ _ _ _ c.loop-p.invariant.1 (sym (rw c.token_at-t.ensures at c.flag_of.ensures) ∙ c.in_ok-after.was) in omega arith

pub loop-p-preserved : goal.loop-p-preserved
loop-p-preserved c = let w = flag_ahead _ _ _ _ c.loop-p.invariant.1 (sym (rw c.token_at-t.ensures at c.flag_of.ensures) ∙ c.in_ok-after.was) in (omega arith, w.1, going_on _ _ _ c.loop-p.invariant.2 (rw c.token_at-t.ensures at (opened c.in_default.in_default-own.keys2)) _ (rw c.token_at-t.ensures at c.flag_of.ensures) _ _ c.in_ok-after.was w.0 w.1)
