use borrow.Enum.Refused.{opened}
use mir.Syntax.{w64}
use mir.ValLaws.{to_z-of_z}
use Rattle.std.specs.Prelude.{Err}
use mathlib.Core.Path.{refl, sym, ap, ◌∙◌}
use native.Mathlib.Omega.{arith}
use Rattle.domain_expressions.proofs.Beginning.{bracket_by, begin_refused, begin_number, begin_bracket, expr_none, expr_number, expr_else, expr_deep, expr_open, placed_refused, placed_number, placed_inside}
use Rattle.domain_expressions.proofs.Sizes.{numeral_fits}
use Rattle.domain_due.proofs.Dues.{open_in}
use Rattle.domain_meaning.specs.Terms.{expr}
use Rattle.domain_expressions.proofs.heads.begun_at.Goals as goal

pub returns-then-left-eq0 : goal.returns-then-left-eq0
returns-then-left-eq0 c = (λ x. begin_refused _ x _ c.args.left _ 12 _ _ refl (expr_none _ x _ c.args.left _ _ _ _ (sym c.token_at-t.ensures ∙ c.in-Number.is) c.if-left-eq0.true), placed_refused _ _ _ _)

pub returns-in-Number : goal.returns-in-Number
returns-in-Number c = let w = numeral_fits _ _ _ _ _ (sym c.token_at-t.ensures ∙ c.in-Number.is) in (λ x. rw (to_z-of_z w64 c.in-Number.z (record { sfits = c.in-Number.known_told-1-own.given.0.1 })) (begin_number _ x _ c.args.left c.in-Number.z _ _ _ (expr_number _ x _ c.args.left _ _ _ _ (sym c.token_at-t.ensures ∙ c.in-Number.is) c.if-left-eq0.false)), rw (to_z-of_z w64 c.in-Number.z (record { sfits = c.in-Number.known_told-1-own.given.0.1 })) (placed_number _ _ _ c.in-Number.z _ _ w.0 w.1 w.2 (omega (arith, w.3))))

pub returns-in_default-t : goal.returns-in_default-t
returns-in_default-t c = (λ x. begin_refused _ x _ c.args.left _ _ _ _ (ap Err c.not_due.ensures) (expr_else _ x _ c.args.left _ _ c.token_at-t.ensures (opened c.in_default.in_default-own.keys2) (opened c.in_default-t.in_default-t-own.keys2)), placed_refused _ _ _ _)

pub returns-then-d-eq0 : goal.returns-then-d-eq0
returns-then-d-eq0 c = (λ x. begin_refused _ x _ c.args.left _ _ _ _ (ap Err c.not_due-then-d-eq0.ensures) (expr_deep _ x _ c.args.left _ _ _ (sym c.token_at-t.ensures ∙ c.in-Open.is) c.if-d-eq0.true), placed_refused _ _ _ _)

pub head_at-requires : goal.head_at-requires
head_at-requires c = (open_in _ _ c.requires _ _ (sym c.token_at-t.ensures ∙ c.in-Open.is)).1

pub returns : goal.returns
returns c = let w = open_in _ _ c.requires _ _ (sym c.token_at-t.ensures ∙ c.in-Open.is) in (λ x. begin_bracket _ x _ c.args.left _ _ (bracket_by _ _ x (expr _ _ x) c.args.left _ _ _ (expr_open _ x _ c.args.left _ _ _ (sym c.token_at-t.ensures ∙ c.in-Open.is) c.if-d-eq0.false) (c.head_at.ensures.0 x (expr _ _ x))), placed_inside _ _ _ _ _ w.0 (omega (arith, c.if-d-eq0.false)) c.head_at.ensures.1)
