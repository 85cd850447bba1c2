use Rattle.std.proofs.lemmas.Result.{err_from_is_err_and}
use borrow.Enum.Refused.{opened}
use mathlib.Core.Path.{refl, sym, ap, ◌∙◌}
use native.Mathlib.Omega.{arith}
use lib.ListN.{length-set}
use Rattle.domain_meaning.specs.Tables.{entry_at, wanted_of}
use Rattle.domain_due.proofs.Dues.{ahead_done, ahead_refused, ahead_by, close_in}
use Rattle.domain_terms.proofs.Givens.{cell_at}
use Rattle.domain_terms.proofs.Wanted.{wanted_count, wanted_few, wanted_at, onward_done, onward_early, onward_refused, onward_extra, onward_unfit, onward_more, room_done, room_refused}
use Rattle.domain_meaning.specs.Due.{place_of}
use Rattle.domain_terms.proofs.arguments.arguments_at.Goals as goal

pub returns-then-j-arity : goal.returns-then-j-arity
returns-then-j-arity c = (λ x m to t k h g. onward_early _ _ _ x (wanted_of (entry_at t _)) _ _ _ _ _ _ (c.loop-p.invariant.5 x m to t k h g) _ _ _ (sym c.token_at-t.ensures ∙ c.in-Close.is) (omega (arith, (c.kept_in-arity.ensures.0 m to t h ∙ wanted_count t _ g (omega (arith, c.requires.3, h.count))))), ahead_refused _ _ 9 _ _ refl, room_refused _ _ 9 _ _ refl)

pub returns-in-Close : goal.returns-in-Close
returns-in-Close c = let w = close_in _ _ c.loop-p.invariant.1 _ _ (sym c.token_at-t.ensures ∙ c.in-Close.is) in (λ x m to t k h g. onward_done _ _ _ x (wanted_of (entry_at t _)) _ _ _ _ _ _ (c.loop-p.invariant.5 x m to t k h g) _ _ (sym c.token_at-t.ensures ∙ c.in-Close.is) (omega (arith, (c.kept_in-arity.ensures.0 m to t h ∙ wanted_count t _ g (omega (arith, c.requires.3, h.count))))), ahead_by _ _ _ _ (omega arith) w.1, room_done _ _ _ _ c.loop-p.invariant.3 (omega arith))

pub returns-in_err-after : goal.returns-in_err-after
returns-in_err-after c = let e = err_from_is_err_and c.from_residual.result c.from_residual.ensures.1 in rw (e.1, e.2) (λ x m to t k h g. onward_refused _ _ _ x (wanted_of (entry_at t _)) _ _ _ _ _ _ (c.loop-p.invariant.5 x m to t k h g) (rw c.token_at-t.ensures at (opened c.in_default.in_default-own.keys2)) _ _ _ _ (c.argument_at.ensures.0 x k) c.in_err-after.was, ahead_refused _ _ _ _ _ refl, room_refused _ _ _ _ _ refl)

pub returns-then-arity-j : goal.returns-then-arity-j
returns-then-arity-j c = (λ x m to t k h g. onward_extra _ _ _ x (wanted_of (entry_at t _)) _ _ _ _ _ _ (c.loop-p.invariant.5 x m to t k h g) (rw c.token_at-t.ensures at (opened c.in_default.in_default-own.keys2)) (omega (arith, k.objects.fits, k.objects.count)) c.in_ok-after.after c.in_ok-after.x (sym (c.argument_at.ensures.0 x k) ∙ c.in_ok-after.was) _ _ (c.place_of.ensures ∙ ap place_of c.token_at-t.ensures) (omega (arith, (c.kept_in-arity.ensures.0 m to t h ∙ wanted_count t _ g (omega (arith, c.requires.3, h.count))))), ahead_refused _ _ 9 _ _ refl, room_refused _ _ 9 _ _ refl)

pub kept_in-requires : goal.kept_in-requires
kept_in-requires c = let cnt = c.kept_in-arity.ensures.0 c.requires.2.rows c.requires.2.to c.requires.2.table c.requires.2.holds ∙ wanted_count c.requires.2.table c.args.i c.requires.2.signed (omega (arith, c.requires.3, c.requires.2.holds.count)) in let four = wanted_few c.requires.2.table c.args.i c.requires.2.signed (omega (arith, c.requires.3, c.requires.2.holds.count)) in (c.requires.2.few, c.requires.2.near, omega arith)

pub returns-then-not-fits_at : goal.returns-then-not-fits_at
returns-then-not-fits_at c = (λ x m to t k h g. onward_unfit _ _ _ x (wanted_of (entry_at t _)) _ _ _ _ _ _ (c.loop-p.invariant.5 x m to t k h g) (rw c.token_at-t.ensures at (opened c.in_default.in_default-own.keys2)) (omega (arith, k.objects.fits, k.objects.count)) c.in_ok-after.after c.in_ok-after.x (sym (c.argument_at.ensures.0 x k) ∙ c.in_ok-after.was) _ (omega (arith, (c.kept_in-arity.ensures.0 m to t h ∙ wanted_count t _ g (omega (arith, c.requires.3, h.count))))) (c.kept_in.ensures.0 m to t h ∙ wanted_at t _ g (omega (arith, c.requires.3, h.count)) _) _ _ (c.place_of-then-not-fits_at.ensures ∙ ap place_of c.token_at-t.ensures) (sym (c.fits_at.ensures x k) ∙ c.if-not-fits_at.true), ahead_refused _ _ 10 _ _ refl, room_refused _ _ 10 _ _ refl)

pub put-requires : goal.put-requires
put-requires c = omega (arith, cell_at _ _ _ c.in_ok-after.was c.argument_at.ensures.1)

pub overflow_add-u : goal.overflow_add-u
overflow_add-u c = let w = ahead_done _ _ _ _ _ c.in_ok-after.was c.argument_at.ensures.2 in omega (arith, c.requires.4, c.loop-p.invariant.2)

pub loop-p-smaller : goal.loop-p-smaller
loop-p-smaller c = let w = ahead_done _ _ _ _ _ c.in_ok-after.was c.argument_at.ensures.2 in omega arith

pub loop-p-preserved : goal.loop-p-preserved
loop-p-preserved c = let w = ahead_done _ _ _ _ _ c.in_ok-after.was c.argument_at.ensures.2 in let cnt = c.kept_in-arity.ensures.0 c.requires.2.rows c.requires.2.to c.requires.2.table c.requires.2.holds ∙ wanted_count c.requires.2.table c.args.i c.requires.2.signed (omega (arith, c.requires.3, c.requires.2.holds.count)) in let four = wanted_few c.requires.2.table c.args.i c.requires.2.signed (omega (arith, c.requires.3, c.requires.2.holds.count)) in (omega arith, w.1, rw c.put.ensures (simp length-set c.loop-p.invariant.2), omega arith, omega arith, λ x m to t k h g. rw c.put.ensures (onward_more c.args.text.now c.args.d c.args.from x (wanted_of (entry_at t c.args.i)) c.args.code.now c.args.used c.loop-p.code c.loop-p.j c.loop-p.at c.loop-p.u (c.loop-p.invariant.5 x m to t k h g) (rw c.token_at-t.ensures at (opened c.in_default.in_default-own.keys2)) (omega (arith, k.objects.fits, k.objects.count)) c.in_ok-after.after c.in_ok-after.x (sym (c.argument_at.ensures.0 x k) ∙ c.in_ok-after.was) c.kept_in.result (omega (arith, (c.kept_in-arity.ensures.0 m to t h ∙ wanted_count t c.args.i g (omega (arith, c.requires.3, h.count))))) (c.kept_in.ensures.0 m to t h ∙ wanted_at t c.args.i g (omega (arith, c.requires.3, h.count)) c.loop-p.j) (sym (c.fits_at.ensures x k) ∙ c.if-not-fits_at.false)), omega arith)
