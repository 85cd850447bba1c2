use Rattle.std.proofs.lemmas.Result.{err_from_is_err_and}
use mathlib.Core.Path.{refl, sym, ap, ◌∙◌}
use native.Mathlib.Omega.{arith}
use Rattle.domain_due.proofs.Dues.{ahead_done}
use Rattle.domain_stored_meaning.specs.Cells.{effects_cells}
use Rattle.domain_expressions.proofs.Passed.{passed}
use Rattle.domain_expressions.proofs.Ends.{written_refused, spent_refused}
use Rattle.domain_effects.proofs.Facts.{spent_done}
use Rattle.domain_effects.proofs.Changing.{change_many, change_untargeted, change_valueless, change_unclosed, change_stored, room_at, over_at}
use Rattle.domain_effects.proofs.singles.change_at.Goals as goal

pub returns-then-left-eq0 : goal.returns-then-left-eq0
returns-then-left-eq0 c = (λ x y h q. written_refused effects_cells _ _ _ _ _ 12 _ (change_many _ _ x y _ _ c.args.left c.if-left-eq0.true) refl, spent_refused _ _ _ _ _ 12 _ refl)

pub returns-in_err-after : goal.returns-in_err-after
returns-in_err-after c = let p = err_from_is_err_and c.from_residual.result c.from_residual.ensures.1 in rw (p.1, p.2) ((λ x y h q. change_untargeted _ _ x y _ _ c.args.left c.if-left-eq0.false _ q _ _ _ _ (c.target_at.ensures.0 x h) _ _ _ _ c.in_err-after.was (sym (ap (passed c.args.left) c.in_err-after.was)), spent_refused _ _ _ _ _ _ _ refl))

pub expression_at-requires : goal.expression_at-requires
expression_at-requires c = let w = ahead_done _ _ _ _ _ c.in_ok-after.was c.target_at.ensures.1 in let v = room_at _ _ _ _ _ c.in_ok-after.was c.target_at.ensures.2 in (w.1, c.requires.1, omega (arith, w.0, w.1, v.1, c.requires.3))

pub returns-in_err-end : goal.returns-in_err-end
returns-in_err-end c = let p = err_from_is_err_and c.from_residual-in_err-end.result c.from_residual-in_err-end.ensures.1 in rw (p.1, p.2) ((λ x y h q. change_valueless _ _ x y _ _ c.args.left c.if-left-eq0.false _ q _ _ _ _ (c.target_at.ensures.0 x h) _ _ c.in_ok-after.was _ _ (c.expression_at.ensures.0 x h) _ _ _ _ c.in_err-end.was (sym (ap (passed c.args.left) c.in_err-end.was)), spent_refused _ _ _ _ _ _ _ refl))

pub closing-requires : goal.closing-requires
closing-requires c = let i = ahead_done _ _ _ _ _ c.in_ok-end.was c.expression_at.ensures.1 in let j = over_at _ _ _ _ _ c.in_ok-end.was c.expression_at.ensures.2 in i.1

pub returns-in_err-next : goal.returns-in_err-next
returns-in_err-next c = let p = err_from_is_err_and c.from_residual-in_err-next.result c.from_residual-in_err-next.ensures.1 in rw (p.1, p.2) ((λ x y h q. change_unclosed _ _ x y _ _ c.args.left c.if-left-eq0.false _ q _ _ _ _ (c.target_at.ensures.0 x h) _ _ c.in_ok-after.was _ _ (c.expression_at.ensures.0 x h) _ _ c.in_ok-end.was _ c.closing.ensures.0 _ _ _ _ c.in_err-next.was (sym (ap (passed c.args.left) c.in_err-next.was)), spent_refused _ _ _ _ _ _ _ refl))

pub returns : goal.returns
returns c = let w = ahead_done _ _ _ _ _ c.in_ok-after.was c.target_at.ensures.1 in let v = room_at _ _ _ _ _ c.in_ok-after.was c.target_at.ensures.2 in let i = ahead_done _ _ _ _ _ c.in_ok-end.was c.expression_at.ensures.1 in let j = over_at _ _ _ _ _ c.in_ok-end.was c.expression_at.ensures.2 in let k = ahead_done _ _ _ _ _ c.in_ok-next.was c.closing.ensures.1 in (λ x y h q. change_stored _ _ x y _ _ c.args.left c.if-left-eq0.false _ q _ _ _ _ (c.target_at.ensures.0 x h) _ _ c.in_ok-after.was _ _ (c.expression_at.ensures.0 x h) _ _ c.in_ok-end.was _ c.closing.ensures.0 _ _ c.in_ok-next.was, spent_done _ _ _ _ _ _ (omega (arith, w.0, i.0, k.0)) k.1 (omega (arith, v.0, j.0)) (omega (arith, v.1, j.1, k.0)))
