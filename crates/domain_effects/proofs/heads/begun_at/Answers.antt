use Rattle.std.specs.Prelude.{Err}
use borrow.Enum.Refused.{opened}
use mathlib.Core.Path.{ap, sym, ◌∙◌}
use native.Mathlib.Omega.{arith}
use Prim.Native.Nat.{◌-◌}
use Rattle.domain_meaning.specs.Effects.{effect}
use Rattle.domain_effects.proofs.Leading.{lead_refused, lead_by, effect_else, effect_deep, effect_open, inside_refused, inside_from}
use Rattle.domain_due.proofs.Dues.{open_in}
use Rattle.domain_effects.proofs.heads.begun_at.Goals as goal

pub returns-in_default : goal.returns-in_default
returns-in_default c = (λ x n. lead_refused _ _ x (effect _ _ x) n _ _ _ _ (ap Err c.not_due.ensures) (effect_else _ x _ n _ _ c.token_at-t.ensures (opened c.in_default.in_default-own.keys2)), inside_refused _ _ _ _ _)

pub returns-then-d-eq0 : goal.returns-then-d-eq0
returns-then-d-eq0 c = (λ x n. lead_refused _ _ x (effect _ _ x) n _ _ _ _ (ap Err c.not_due-then-d-eq0.ensures) (effect_deep _ x _ n _ _ _ (sym c.token_at-t.ensures ∙ c.in-Open.is) c.if-d-eq0.true), inside_refused _ _ _ _ _)

pub head_at-requires : goal.head_at-requires
head_at-requires c = let w = open_in _ _ c.requires _ _ (sym c.token_at-t.ensures ∙ c.in-Open.is) in w.1

pub returns : goal.returns
returns c = let w = open_in _ _ c.requires _ _ (sym c.token_at-t.ensures ∙ c.in-Open.is) in (λ x n. lead_by _ _ x (effect _ _ x) n _ _ _ (effect_open _ x _ n _ _ _ (sym c.token_at-t.ensures ∙ c.in-Open.is) c.if-d-eq0.false) (c.head_at.ensures.0 x (effect _ _ x) n), inside_from _ _ _ _ _ _ _ (omega (arith, w.0)) (omega arith) (omega (arith, c.if-d-eq0.false)) c.head_at.ensures.1)
