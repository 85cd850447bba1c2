use native.Mathlib.Omega.{arith}
use Rattle.domain_typed_lists.proofs.Outcomes.{below_most}
use Rattle.domain_typed_lists.proofs.typed.type_of_group.Goals as goal

pub returns-then-own : goal.returns-then-own
returns-then-own c = (λ m ts t i h. rw c.if-own.true (c.type_due.ensures.0 m t h), c.type_due.ensures.1, below_most _ _ _ (omega arith) c.type_due.ensures.2)

pub returns : goal.returns
returns c = (λ m ts t i h. rw (c.if-own.false, ← i.count) (c.type_due-2.ensures.0 17 ts i), c.type_due-2.ensures.1, below_most _ _ _ (omega arith) c.type_due-2.ensures.2)
