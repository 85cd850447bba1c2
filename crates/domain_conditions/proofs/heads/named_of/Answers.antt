use borrow.Enum.Refused.{opened}
use native.Mathlib.Omega.{arith}
use Rattle.domain_conditions.proofs.Beginning.{head_and, head_not, other_name, inside_and, inside_not, inside_atom}
use Rattle.domain_conditions.proofs.heads.named_of.Goals as goal

pub returns-in-And : goal.returns-in-And
returns-in-And c = (λ s d x y n f g. head_and s d x y n f g _ _ _ c.in-And.is, inside_and _ _ _ _ c.requires (omega arith))

pub returns-in-Not : goal.returns-in-Not
returns-in-Not c = (λ s d x y n f g. head_not s d x y n f g _ _ _ c.in-Not.is, inside_not _ _ _ _ c.requires (omega arith))

pub returns-in_default : goal.returns-in_default
returns-in_default c = (λ s d x y n f g. other_name s d x y n f g c.args.h _ _ (opened c.in_default.in_default-own.keys3), inside_atom _ _ _ _ c.requires (omega arith))
