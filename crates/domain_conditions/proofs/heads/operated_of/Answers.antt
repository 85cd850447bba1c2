use borrow.Enum.Refused.{opened}
use mathlib.Core.Path.{refl}
use Rattle.domain_conditions.proofs.Beginning.{begin_refused, other_operator, inside_refused}
use Rattle.domain_conditions.proofs.heads.operated_of.Goals as goal

pub returns-in_default : goal.returns-in_default
returns-in_default c = (λ s d x y f g. begin_refused s d x y c.args.left f g _ 3 _ _ refl (other_operator s d x y c.args.left f g c.args.h _ _ (opened c.in_default.in_default-own.keys6)), inside_refused _ _ _)
