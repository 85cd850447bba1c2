use mathlib.Core.Path.{refl, sym, ap, ◌∙◌}
use native.Mathlib.Omega.{arith}
use Rattle.text_tokens.specs.Runs.{part}
use Rattle.domain_due.specs.Answers.{answer_of}
use Rattle.domain_typed_lists.specs.Outcome.{Room}
use Rattle.domain_typed_lists.proofs.Outcomes.{found}
use Rattle.domain_typed_lists.proofs.Going.{fresh_known, fresh_full, fresh_new}
use Rattle.domain_typed_lists.proofs.typed.fresh_at.Goals as goal

pub returns-then-is_some : goal.returns-then-is_some
unfolding Room
returns-then-is_some c = (λ m t h. sym (ap answer_of (fresh_known c.args.max t c.args.place (part c.args.text.now c.args.start c.args.end) c.args.end _ (found m c.args.rows.now c.args.n t _ _ c.find.result _ h c.find.ensures c.part_of.ensures refl) (sym c.is_some.ensures ∙ c.if-is_some.true))), tt)

pub returns-then-max-n : goal.returns-then-max-n
unfolding Room
returns-then-max-n c = (λ m t h. sym (ap answer_of (fresh_full c.args.max t c.args.place (part c.args.text.now c.args.start c.args.end) c.args.end _ (found m c.args.rows.now c.args.n t _ _ c.find.result _ h c.find.ensures c.part_of.ensures refl) (sym c.is_some.ensures ∙ c.if-is_some.false) (omega (arith, h.count)))), tt)

pub returns : goal.returns
unfolding Room
returns c = (λ m t h. sym (ap answer_of (fresh_new c.args.max t c.args.place (part c.args.text.now c.args.start c.args.end) c.args.end _ (found m c.args.rows.now c.args.n t _ _ c.find.result _ h c.find.ensures c.part_of.ensures refl) (sym c.is_some.ensures ∙ c.if-is_some.false) (omega (arith, h.count)))), c.if-max-n.false)
