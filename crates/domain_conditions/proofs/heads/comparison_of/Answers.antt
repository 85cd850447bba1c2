use mathlib.Core.Path.{refl}
use native.Mathlib.Omega.{arith}
use Rattle.domain_conditions.proofs.Beginning.{begin_refused, comparison_none, comparison_some, inside_refused, inside_compared}
use Rattle.domain_conditions.proofs.heads.comparison_of.Goals as goal

pub returns-then-left-eq0 : goal.returns-then-left-eq0
returns-then-left-eq0 c = (λ s d x y f g. begin_refused s d x y c.args.left f g _ 12 _ _ refl (comparison_none s d x y c.args.left f g c.args.k _ _ c.if-left-eq0.true), inside_refused _ _ _)

pub returns : goal.returns
returns c = (λ s d x y f g. comparison_some s d x y f g c.args.left _ _ _ c.if-left-eq0.false, inside_compared _ _ _ _ _ c.requires.0 (omega arith) c.requires.1)
