use native.Mathlib.Omega.{arith}
use Rattle.domain_typed_lists.proofs.Outcomes.{outcome_by}
use Rattle.domain_typed_lists.proofs.Going.{names_typed}
use Rattle.domain_typed_lists.proofs.typed.names_to.Goals as goal

pub returns : goal.returns
returns c = (λ ts t i h. outcome_by 64 _ _ _ _ (names_typed _ ts 64 t _ _ h.count) (c.typed_list.ensures.0 ts t _ i h (omega arith)), c.typed_list.ensures.1)
