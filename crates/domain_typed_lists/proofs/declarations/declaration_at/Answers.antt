use mathlib.Core.Path.{refl, sym, ◌∙◌}
use mathlib.Core.List.{[], ◌∷◌}
use Prim.Native.Nat.{◌<◌}
use native.Mathlib.Omega.{arith}
use Rattle.std.proofs.lemmas.Result.{err_from_is_err_and}
use Rattle.domain_due.proofs.Dues.{answer_done, answer_refused, ahead_done, ahead_refused, ahead_by}
use Rattle.domain_rows.specs.Held.{rows_of}
use Rattle.domain_meaning.specs.Indexes.{padded}
use Rattle.domain_typed_lists.proofs.Outcomes.{refuses, reads, room_done}
use Rattle.domain_due.proofs.Dues.{name_refused}
use Rattle.domain_typed_lists.proofs.Declaring.{named, name_short, no_variables, signed_done, signed_refused, declaration_none, declaration_known, declaration_refused, declaration_done}
use Rattle.domain_typed_lists.proofs.declarations.declaration_at.Goals as goal

pub returns-in_err-end : goal.returns-in_err-end
returns-in_err-end c = let p = err_from_is_err_and c.from_residual.result c.from_residual.ensures.1 in rw (p.1, p.2) (λ ts t i h. refuses _ _ _ _ _ _ (declaration_none _ ts _ _ t _ _ _ (name_refused _ _ _ (sym c.new_name.ensures.0 ∙ c.in_err-end.was))) refl, ahead_refused _ _ _ _ _ refl)

pub returns-in_err-fresh_at : goal.returns-in_err-fresh_at
returns-in_err-fresh_at c = let p = err_from_is_err_and c.from_residual-in_err-fresh_at.result c.from_residual-in_err-fresh_at.ensures.1 in rw (p.1, p.2) (λ ts t i h. refuses _ _ _ _ _ _ (declaration_known _ ts _ _ t _ c.in_ok-end.start c.in_ok-end.end (named _ 13 c.args.from c.in_ok-end.start c.in_ok-end.end (sym c.new_name.ensures.0 ∙ c.in_ok-end.was)) _ _ (answer_refused _ _ _ (sym (c.fresh_at.ensures.0 c.args.max t h) ∙ c.in_err-fresh_at.was))) refl, ahead_refused _ _ _ _ _ refl)

pub signature_to-requires : goal.signature_to-requires
unfolding rows_of padded
signature_to-requires c = let q = ahead_done _ _ _ _ _ c.in_ok-end.was c.new_name.ensures.1 in (q.1, c.requires.1, (no_variables _ c.requires.3), omega (arith, c.requires.3), omega (arith, c.requires.3))

pub returns-in_err-after : goal.returns-in_err-after
returns-in_err-after c = let p = err_from_is_err_and c.from_residual-in_err-after.result c.from_residual-in_err-after.ensures.1 in rw (p.1, p.2) (λ ts t i h. refuses _ _ _ _ _ _ (declaration_refused _ ts _ _ t _ c.in_ok-end.start c.in_ok-end.end (named _ 13 c.args.from c.in_ok-end.start c.in_ok-end.end (sym c.new_name.ensures.0 ∙ c.in_ok-end.was)) _ _ (answer_done _ _ _ (sym (c.fresh_at.ensures.0 c.args.max t h) ∙ c.in_ok-fresh_at.was)) _ _ (signed_refused _ _ _ (0 ∷ 0 ∷ 0 ∷ 0 ∷ []) _ _ _ (c.signature_to.ensures.0 ts i) c.in_err-after.was)) refl, ahead_refused _ _ _ _ _ refl)

pub overflow_add-m : goal.overflow_add-m
overflow_add-m c = let b : c.args.most < 4 = omega (arith, c.requires.3) in let x = signed_done _ _ _ (0 ∷ 0 ∷ 0 ∷ 0 ∷ []) _ _ _ (c.signature_to.ensures.0 c.requires.1.0 c.requires.1.1) c.in_ok-after.was b in omega (arith, x.fits)

pub slice_bounds-info-end : goal.slice_bounds-info-end
slice_bounds-info-end c = let b : c.args.most < 4 = omega (arith, c.requires.3) in let x = signed_done _ _ _ (0 ∷ 0 ∷ 0 ∷ 0 ∷ []) _ _ _ (c.signature_to.ensures.0 c.requires.1.0 c.requires.1.1) c.in_ok-after.was b in x.room

pub slice_bounds-enter-end : goal.slice_bounds-enter-end
slice_bounds-enter-end c = let b : c.args.most < 4 = omega (arith, c.requires.3) in let x = signed_done _ _ _ (0 ∷ 0 ∷ 0 ∷ 0 ∷ []) _ _ _ (c.signature_to.ensures.0 c.requires.1.0 c.requires.1.1) c.in_ok-after.was b in sym x.long

pub enter-requires : goal.enter-requires
enter-requires c = let b : c.args.most < 4 = omega (arith, c.requires.3) in let x = signed_done _ _ _ (0 ∷ 0 ∷ 0 ∷ 0 ∷ []) _ _ _ (c.signature_to.ensures.0 c.requires.1.0 c.requires.1.1) c.in_ok-after.was b in (c.requires.2, room_done _ _ _ _ _ c.in_ok-fresh_at.was c.fresh_at.ensures.1, rw c.part_of.ensures (name_short _ 13 c.args.from c.in_ok-end.start c.in_ok-end.end (sym c.new_name.ensures.0 ∙ c.in_ok-end.was) c.requires.0), omega (arith, x.long, x.fits))

pub returns : goal.returns
returns c = let q = ahead_done _ _ _ _ _ c.in_ok-end.was c.new_name.ensures.1 in let p = ahead_done _ _ _ _ _ c.in_ok-after.was c.signature_to.ensures.1 in (λ ts t i h. let b : c.args.most < 4 = omega (arith, c.requires.3) in let x = signed_done _ _ _ (0 ∷ 0 ∷ 0 ∷ 0 ∷ []) _ _ _ (c.signature_to.ensures.0 ts i) c.in_ok-after.was b in reads _ _ _ _ _ _ (declaration_done _ ts _ _ t _ c.in_ok-end.start c.in_ok-end.end (named _ 13 c.args.from c.in_ok-end.start c.in_ok-end.end (sym c.new_name.ensures.0 ∙ c.in_ok-end.was)) _ _ (answer_done _ _ _ (sym (c.fresh_at.ensures.0 c.args.max t h) ∙ c.in_ok-fresh_at.was)) x.table _ x.is) (rw (c.part_of.ensures, x.numbers) at (c.enter.ensures t h)), ahead_by _ _ _ _ (omega arith) p.1)
