use Rattle.std.proofs.lemmas.Result.{err_from_is_err_and}
use borrow.Enum.Refused.{opened}
use mathlib.Core.Path.{refl, sym, ap, ◌∙◌}
use native.Mathlib.Omega.{arith}
use lib.ListN.{length-set}
use Rattle.domain_meaning.specs.Tables.{entry_at, wanted_of}
use Rattle.domain_meaning.specs.Due.{place_of}
use Rattle.domain_due.specs.Answers.{answer_of}
use Rattle.domain_stored_meaning.specs.Entries.{signed_in}
use Rattle.plan_lines.specs.Knowing.{known_in}
use Rattle.plan_lines.proofs.Objects.{onward_start, onward_done, onward_early, onward_refused, onward_extra, onward_unfit, onward_more, given_below, known_given, known_fits}
use Rattle.plan_lines.proofs.reading.objects_at.Goals as goal

pub loop-p-init : goal.loop-p-init
loop-p-init c = (refl, onward_start _ _ _ _ _)

pub returns-then-j-arity : goal.returns-then-j-arity
returns-then-j-arity c = onward_early _ (known_in _ _ _ _ _) (wanted_of (entry_at (signed_in _ _) _)) _ _ _ _ _ c.loop-p.invariant.1 _ _ _ (sym c.sign_at-t.ensures ∙ c.in-Close.is) (omega (arith, c.arity-arity.ensures.0))

pub returns-in-Close : goal.returns-in-Close
returns-in-Close c = onward_done _ (known_in _ _ _ _ _) (wanted_of (entry_at (signed_in _ _) _)) _ _ _ _ _ c.loop-p.invariant.1 _ _ (sym c.sign_at-t.ensures ∙ c.in-Close.is) (omega (arith, c.arity-arity.ensures.0))

pub returns-in_err-after : goal.returns-in_err-after
returns-in_err-after c = let p = err_from_is_err_and c.from_residual.result c.from_residual.ensures.1 in rw (p.1, p.2) (onward_refused _ (known_in _ _ _ _ _) (wanted_of (entry_at (signed_in _ _) _)) _ _ _ _ _ c.loop-p.invariant.1 (rw c.sign_at-t.ensures at (opened c.in_default.in_default-own.keys2)) _ _ _ (sym (c.object_at.ensures ∙ ap answer_of (known_given _ _ _ _ _ _ _ _ c.sign_at-t.ensures)) ∙ c.in_err-after.was))

pub returns-then-arity-j : goal.returns-then-arity-j
returns-then-arity-j c = onward_extra _ (known_in _ _ _ _ _) (wanted_of (entry_at (signed_in _ _) _)) _ _ _ _ _ c.loop-p.invariant.1 (rw c.sign_at-t.ensures at (opened c.in_default.in_default-own.keys2)) c.in_ok-after.after c.in_ok-after.x (sym (c.object_at.ensures ∙ ap answer_of (known_given _ _ _ _ _ _ _ _ c.sign_at-t.ensures)) ∙ c.in_ok-after.was) _ _ (c.place_of.ensures ∙ ap place_of c.sign_at-t.ensures) (omega (arith, c.arity-arity.ensures.0))

pub returns-then-not-is_fit : goal.returns-then-not-is_fit
returns-then-not-is_fit c = onward_unfit _ (known_in _ _ _ _ _) (wanted_of (entry_at (signed_in _ _) _)) _ _ _ _ _ c.loop-p.invariant.1 (rw c.sign_at-t.ensures at (opened c.in_default.in_default-own.keys2)) c.in_ok-after.after c.in_ok-after.x (sym (c.object_at.ensures ∙ ap answer_of (known_given _ _ _ _ _ _ _ _ c.sign_at-t.ensures)) ∙ c.in_ok-after.was) _ (omega (arith, c.arity-arity.ensures.0)) c.wanted.ensures _ _ (c.place_of-then-not-is_fit.ensures ∙ ap place_of c.sign_at-t.ensures) (sym (known_fits _ _ _ _ _ (known_in _ _ _ _ _) c.in_ok-after.x _ refl) ∙ sym c.is_fit.ensures ∙ c.if-not-is_fit.true)

pub put-requires : goal.put-requires
put-requires c = omega (arith, given_below c.args.tables.now c.args.counts c.args.text.now c.sign_at-t.result _ _ (sym c.object_at.ensures ∙ c.in_ok-after.was), c.requires.0.2)

pub loop-p-preserved : goal.loop-p-preserved
loop-p-preserved c = rw c.put.ensures (simp length-set c.loop-p.invariant.0, onward_more _ (known_in _ _ _ _ _) (wanted_of (entry_at (signed_in _ _) _)) _ _ _ _ _ c.loop-p.invariant.1 (rw c.sign_at-t.ensures at (opened c.in_default.in_default-own.keys2)) c.in_ok-after.after c.in_ok-after.x (sym (c.object_at.ensures ∙ ap answer_of (known_given _ _ _ _ _ _ _ _ c.sign_at-t.ensures)) ∙ c.in_ok-after.was) _ (omega (arith, c.arity-arity.ensures.0)) c.wanted.ensures (sym (known_fits _ _ _ _ _ (known_in _ _ _ _ _) c.in_ok-after.x _ refl) ∙ sym c.is_fit.ensures ∙ c.if-not-is_fit.false))
