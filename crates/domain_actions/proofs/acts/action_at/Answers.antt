use Rattle.std.proofs.lemmas.Result.{err_from_is_err_and}
use Prim.Native.Nat.{◌-◌}
use native.Mathlib.Omega.{arith}
use Rattle.domain_meaning.specs.Lists.{signature}
use Rattle.domain_meaning.specs.Actions.{within}
use Rattle.domain_actions.specs.Acted.{declarations}
use Rattle.domain_actions.proofs.Resting.{ended_refused}
use Rattle.domain_actions.proofs.Titling.{titled_got, acting_scope, held_count, beyond_at, action_untitled, action_titled, back}
use Rattle.domain_actions.proofs.acts.action_at.Goals as goal

pub returns-in_err-after : goal.returns-in_err-after
returns-in_err-after c = let p = err_from_is_err_and c.from_residual.result c.from_residual.ensures.1 in rw (p.1, p.2, ← c.in_err-after.was) ((λ x as' h k. action_untitled _ x _ _ as' c.args.from _ _ _ _ _ _ _ (c.header_at.ensures.0 x (declarations as') h k) _ _ c.in_err-after.was, ended_refused _ _ _ _ _ _ _ c.in_err-after.was))

pub body_at-requires : goal.body_at-requires
body_at-requires c = let b = beyond_at _ _ _ _ _ c.in_ok-after.was c.header_at.ensures.1 in let g = (titled_got c.requires.1.0 c.args.counts c.args.n c.requires.3.0 c.header_at.result _ _ _ _ _ (c.header_at.ensures.0 c.requires.1.0 c.requires.3.0 c.requires.1.1 c.requires.3.1) c.in_ok-after.was) in (b.1, (within c.requires.1.0 g.title.variables, acting_scope _ c.args.counts _ _ _ g.count g.entered.own), omega (arith, b.0, b.1, c.requires.4), g.entered.room)

pub returns : goal.returns
returns c = let b = beyond_at _ _ _ _ _ c.in_ok-after.was c.header_at.ensures.1 in (λ x as' h k. let g = (titled_got x c.args.counts c.args.n (declarations as') c.header_at.result _ _ _ _ _ (c.header_at.ensures.0 x (declarations as') h k) c.in_ok-after.was) in action_titled c.args.text.now x c.args.counts c.args.durative as' c.args.from c.args.n c.args.code.now c.args.used c.args.starts.now c.header_at.result _ _ (c.header_at.ensures.0 x (declarations as') h k) _ _ c.in_ok-after.was (held_count _ _ as' k) c.body_at.result _ _ (c.body_at.ensures.0 (within x g.title.variables) (signature g.title.word g.title.variables) (acting_scope _ c.args.counts _ _ _ g.count g.entered.own)), back c.body_at.result _ _ _ _ b.0 c.body_at.ensures.1)
