use mathlib.Core.Path.{refl, sym, ◌∙◌}
use native.Mathlib.Omega.{arith}
use Rattle.text_tokens.specs.Runs.{part}
use Rattle.std.proofs.lemmas.Result.{err_from_is_err_and}
use Rattle.domain_due.proofs.Dues.{answer_done, answer_refused}
use Rattle.domain_typed_lists.proofs.Outcomes.{refuses, reads, room_done}
use Rattle.domain_typed_lists.proofs.Going.{declare_done, declare_refused}
use Rattle.domain_typed_lists.proofs.typed.declare_name.Goals as goal

pub returns-in_err-after : goal.returns-in_err-after
returns-in_err-after c = let p = err_from_is_err_and c.from_residual.result c.from_residual.ensures.1 in rw (p.1, p.2) (λ t h. refuses _ _ _ _ _ _ (declare_refused c.args.max t c.args.place (part c.args.text.now c.args.start c.args.end) c.args.end _ _ (answer_refused _ _ _ (sym (c.fresh_at.ensures.0 c.args.max t h) ∙ c.in_err-after.was))) refl)

pub enter-requires : goal.enter-requires
enter-requires c = (c.requires.1, room_done _ _ _ _ _ c.in_ok-after.was c.fresh_at.ensures.1, (rw c.part_of.ensures c.requires.0), omega arith)

pub returns : goal.returns
returns c = λ t h. reads _ _ _ _ _ _ (declare_done c.args.max t c.args.place (part c.args.text.now c.args.start c.args.end) c.args.end _ _ (answer_done _ _ _ (sym (c.fresh_at.ensures.0 c.args.max t h) ∙ c.in_ok-after.was))) (rw c.part_of.ensures at (c.enter.ensures t h))
