use mathlib.Core.Path.{refl, sym, ◌∙◌}
use Prim.Native.Nat.{◌<◌}
use native.Mathlib.Omega.{arith}
use lib.ListN.{length}
use Rattle.std.proofs.lemmas.Result.{err_from_is_err_and}
use Rattle.domain_due.specs.Answers.{Ahead}
use Rattle.domain_due.proofs.Dues.{answer_done, answer_refused, ahead_done, ahead_refused}
use Rattle.domain_typed_lists.proofs.Outcomes.{refuses, reads, below_done}
use Rattle.domain_typed_lists.proofs.Going.{group_none, group_done, group_refused}
use Rattle.domain_typed_lists.proofs.typed.group_at.Goals as goal

pub returns-then-n-g : goal.returns-then-n-g
returns-then-n-g c = (λ ts t i h. refuses _ _ _ _ _ _ (group_none _ _ ts t _ _ _ (omega (arith, c.if-n-g.true, h.count))) refl, ahead_refused _ _ _ _ _ refl)

pub returns-in_err-after : goal.returns-in_err-after
returns-in_err-after c = let p = err_from_is_err_and c.from_residual.result c.from_residual.ensures.1 in rw (p.1, p.2) (λ ts t i h. let l : c.args.g < length t = omega (arith, c.if-n-g.false, h.count) in refuses _ _ _ _ _ _ (group_refused _ _ ts t _ _ _ l _ _ (answer_refused _ _ _ (sym (c.type_of_group.ensures.0 c.args.max ts t i h) ∙ c.in_err-after.was))) refl, ahead_refused _ _ _ _ _ refl)

pub overflow_cast-k : goal.overflow_cast-k
overflow_cast-k c = let q = below_done _ _ _ _ c.in_ok-after.was c.type_of_group.ensures.2 in omega arith

pub returns : goal.returns
unfolding Ahead
returns c = (λ ts t i h. let l : c.args.g < length t = omega (arith, c.if-n-g.false, h.count) in reads _ _ _ _ _ _ (group_done _ _ ts t _ _ _ l _ _ (answer_done _ _ _ (sym (c.type_of_group.ensures.0 c.args.max ts t i h) ∙ c.in_ok-after.was))) (c.fill.ensures t h), ahead_done _ _ _ _ _ c.in_ok-after.was c.type_of_group.ensures.1)
