use mathlib.Core.Path.{refl, ap, ◌∙◌}
use native.Mathlib.Omega.{arith}
use borrow.Author.Rules.{rules}
use Rattle.std.proofs.lemmas.Result.{err_from_is_err_and}
use Rattle.std.specs.Prelude.{Ok}
use Rattle.domain_due.proofs.Dues.{ahead_done, ahead_refused, ahead_by}
use Rattle.domain_typed_lists.proofs.Next.{item_close, item_dash, item_name, item_refused}
use Rattle.domain_typed_lists.proofs.Going.{going_close, going_refused, going_group, going_group_refused, going_name, going_name_refused}
use Rattle.domain_typed_lists.proofs.typed.typed_list.Goals as goal

pub returns-in-Close : goal.returns-in-Close
returns-in-Close c = let r = item_close _ _ _ c.loop-next.invariant.1 _ c.item_at.ensures _ (c.in_ok-next.was ∙ ap Ok c.in-Close.is) in (λ ts t k i h. going_close _ _ _ ts _ t _ _ _ _ _ _ (c.loop-next.invariant.3 ts t i h) _ r.0 k, ahead_by _ _ _ _ (omega (arith, c.loop-next.invariant.0)) r.2)

pub group_at-requires : goal.group_at-requires
group_at-requires c = ((item_dash _ _ _ c.loop-next.invariant.1 _ c.item_at.ensures _ _ (c.in_ok-next.was ∙ ap Ok c.in-Dash.is)).2, c.requires.1, ((c.loop-next.invariant.3 c.requires.1.0 c.requires.2.0 c.requires.1.1 c.requires.2.1).table, (c.loop-next.invariant.3 c.requires.1.0 c.requires.2.0 c.requires.1.1 c.requires.2.1).holds), omega (arith, (c.loop-next.invariant.3 c.requires.1.0 c.requires.2.0 c.requires.1.1 c.requires.2.1).holds.fits, c.requires.3))

pub returns-in_err-after-in-Dash : goal.returns-in_err-after-in-Dash
returns-in_err-after-in-Dash c = let p = err_from_is_err_and c.from_residual-in_err-after-in-Dash.result c.from_residual-in_err-after-in-Dash.ensures.1 in rw (p.1, p.2) (λ ts t k i h. going_group_refused _ _ _ ts _ t _ _ _ _ _ _ (c.loop-next.invariant.3 ts t i h) _ _ (item_dash _ _ _ c.loop-next.invariant.1 _ c.item_at.ensures _ _ (c.in_ok-next.was ∙ ap Ok c.in-Dash.is)).0 _ _ (c.group_at.ensures.0 ts (c.loop-next.invariant.3 ts t i h).table i (c.loop-next.invariant.3 ts t i h).holds) _ _ c.in_err-after-in-Dash.was k, ahead_refused _ _ _ _ _ refl)

pub loop-next-smaller-in-Dash : goal.loop-next-smaller-in-Dash
loop-next-smaller-in-Dash c = let r = item_dash _ _ _ c.loop-next.invariant.1 _ c.item_at.ensures _ _ (c.in_ok-next.was ∙ ap Ok c.in-Dash.is) in omega (arith, ahead_done _ _ _ _ _ c.in_ok-after-in-Dash.was c.group_at.ensures.1)

pub loop-next-preserved-in-Dash : goal.loop-next-preserved-in-Dash
loop-next-preserved-in-Dash c = let r = item_dash _ _ _ c.loop-next.invariant.1 _ c.item_at.ensures _ _ (c.in_ok-next.was ∙ ap Ok c.in-Dash.is) in let q = ahead_done _ _ _ _ _ c.in_ok-after-in-Dash.was c.group_at.ensures.1 in (omega (arith, c.loop-next.invariant.0), q.1, search rules, λ ts t i h. going_group _ _ _ ts _ t _ _ _ _ _ _ (c.loop-next.invariant.3 ts t i h) _ _ (item_dash _ _ _ c.loop-next.invariant.1 _ c.item_at.ensures _ _ (c.in_ok-next.was ∙ ap Ok c.in-Dash.is)).0 _ _ (c.group_at.ensures.0 ts (c.loop-next.invariant.3 ts t i h).table i (c.loop-next.invariant.3 ts t i h).holds) _ _ c.in_ok-after-in-Dash.was (omega arith) q.1)

pub declare_name-requires : goal.declare_name-requires
declare_name-requires c = let r = item_name _ _ _ c.loop-next.invariant.1 _ c.item_at.ensures _ _ _ (c.in_ok-next.was ∙ ap Ok c.in-Name.is) in (r.3, ((c.loop-next.invariant.3 c.requires.1.0 c.requires.2.0 c.requires.1.1 c.requires.2.1).table, (c.loop-next.invariant.3 c.requires.1.0 c.requires.2.0 c.requires.1.1 c.requires.2.1).holds))

pub returns-in_err-m-in-Name : goal.returns-in_err-m-in-Name
returns-in_err-m-in-Name c = let p = err_from_is_err_and c.from_residual-in_err-m-in-Name.result c.from_residual-in_err-m-in-Name.ensures.1 in rw (p.1, p.2) (λ ts t k i h. going_name_refused _ _ _ ts _ t _ _ _ _ _ _ (c.loop-next.invariant.3 ts t i h) c.in-Name.place c.in-Name.start c.in-Name.end (item_name _ _ _ c.loop-next.invariant.1 _ c.item_at.ensures _ _ _ (c.in_ok-next.was ∙ ap Ok c.in-Name.is)).0 _ _ (c.declare_name.ensures (c.loop-next.invariant.3 ts t i h).table (c.loop-next.invariant.3 ts t i h).holds) _ _ c.in_err-m-in-Name.was k, ahead_refused _ _ _ _ _ refl)

pub loop-next-smaller : goal.loop-next-smaller
loop-next-smaller c = let r = item_name _ _ _ c.loop-next.invariant.1 _ c.item_at.ensures _ _ _ (c.in_ok-next.was ∙ ap Ok c.in-Name.is) in omega arith

pub loop-next-preserved : goal.loop-next-preserved
loop-next-preserved c = let r = item_name _ _ _ c.loop-next.invariant.1 _ c.item_at.ensures _ _ _ (c.in_ok-next.was ∙ ap Ok c.in-Name.is) in (omega (arith, c.loop-next.invariant.0), r.2, search rules, λ ts t i h. going_name _ _ _ ts _ t _ _ _ _ _ _ (c.loop-next.invariant.3 ts t i h) c.in-Name.place c.in-Name.start c.in-Name.end (item_name _ _ _ c.loop-next.invariant.1 _ c.item_at.ensures _ _ _ (c.in_ok-next.was ∙ ap Ok c.in-Name.is)).0 _ _ (c.declare_name.ensures (c.loop-next.invariant.3 ts t i h).table (c.loop-next.invariant.3 ts t i h).holds) _ _ c.in_ok-m-in-Name.was r.1 r.2)

pub returns-in_err-next : goal.returns-in_err-next
returns-in_err-next c = let p = err_from_is_err_and c.from_residual.result c.from_residual.ensures.1 in rw (p.1, p.2) (λ ts t k i h. going_refused _ _ _ ts _ t _ _ _ _ _ _ (c.loop-next.invariant.3 ts t i h) _ _ _ (item_refused _ _ _ c.loop-next.invariant.1 _ c.item_at.ensures _ _ c.in_err-next.was) k, ahead_refused _ _ _ _ _ refl)
