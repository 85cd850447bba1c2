use borrow.Enum.Refused.{opened}
use Rattle.std.specs.Prelude.{Err}
use mathlib.Core.Path.{sym, ap, ◌∙◌}
use Prim.Native.Nat.{◌-◌}
use native.Mathlib.Omega.{arith}
use Rattle.domain_conditions.proofs.Beginning.{begin_refused, begin_by, bracket_else, bracket_deep, bracket_open, placed_refused, placed_inside}
use Rattle.domain_due.proofs.Dues.{open_in}
use Rattle.domain_conditions.proofs.heads.begun_at.Goals as goal

pub returns-in_default : goal.returns-in_default
returns-in_default c = (λ x y f g. begin_refused _ _ x y c.args.left f g _ _ _ _ (ap Err c.not_due.ensures) (bracket_else _ (c.args.d - 1) x y c.args.left f g _ _ _ c.token_at-t.ensures (opened c.in_default.in_default-own.keys2)), placed_refused _ _ _ _)

pub returns-then-d-eq0 : goal.returns-then-d-eq0
returns-then-d-eq0 c = (λ x y f g. begin_refused _ _ x y c.args.left f g _ _ _ _ (ap Err c.not_due-then-d-eq0.ensures) (bracket_deep _ (c.args.d - 1) x y c.args.left f g _ _ _ _ (sym c.token_at-t.ensures ∙ c.in-Open.is) c.if-d-eq0.true), placed_refused _ _ _ _)

pub head_at-requires : goal.head_at-requires
head_at-requires c = let w = open_in _ _ c.requires _ _ (sym c.token_at-t.ensures ∙ c.in-Open.is) in w.1

pub returns : goal.returns
returns c = let w = open_in _ _ c.requires _ _ (sym c.token_at-t.ensures ∙ c.in-Open.is) in (λ x y f g. begin_by _ _ x y c.args.left f g _ _ _ (bracket_open _ (c.args.d - 1) x y c.args.left f g _ _ _ _ (sym c.token_at-t.ensures ∙ c.in-Open.is) c.if-d-eq0.false) (c.head_at.ensures.0 x y f g), placed_inside _ _ _ _ _ w.0 (omega (arith, c.if-d-eq0.false)) c.head_at.ensures.1)
