use Rattle.std.proofs.lemmas.Result.{err_from_is_err_and}
use mathlib.Core.Path.{refl, ◌∙◌}
use Prim.Native.Nat.{◌+◌, ◌-◌}
use native.Mathlib.Omega.{arith}
use lib.ListN.{length}
use Rattle.domain_actions.specs.Acted.{declarations}
use Rattle.domain_actions.proofs.Resting.{ended_at}
use Rattle.domain_actions.proofs.Titling.{further_at}
use Rattle.domain_actions.proofs.Gathering.{onward_start, onward_last, onward_refused, onward_more, later_by, later_refused}
use Rattle.domain_actions.proofs.acts.actions_to.Goals as goal

pub loop-durative-init : goal.loop-durative-init
loop-durative-init c = (omega arith, c.requires.0, c.requires.1, λ x k h e. onward_start _ x k _ _ _ _ e c.requires.4, refl, refl, refl)

pub begun_at-b-requires : goal.begun_at-b-requires
begun_at-b-requires c = c.loop-durative.invariant.1

pub shape_of-rows-in_default : goal.shape_of-rows-in_default
shape_of-rows-in_default c = c.loop-durative.invariant.4

pub shape_of-code-in_default : goal.shape_of-code-in_default
shape_of-code-in_default c = c.loop-durative.invariant.5

pub shape_of-starts-in_default : goal.shape_of-starts-in_default
shape_of-starts-in_default c = c.loop-durative.invariant.6

pub returns-in_default : goal.returns-in_default
returns-in_default c = (λ x k h e. onward_last _ x k _ _ _ _ _ _ _ _ _ (c.loop-durative.invariant.3 x k h e) _ c.in_default.is (c.begun_at-b.ensures.0 ((c.loop-durative.invariant.3 x k h e).fuel - 1) x (c.loop-durative.invariant.3 x k h e).before) (omega (arith, c.loop-durative.invariant.1, c.loop-durative.invariant.2)), later_by _ _ _ _ c.loop-durative.invariant.0 c.loop-durative.invariant.1)

pub action_at-requires : goal.action_at-requires
action_at-requires c = let f = further_at _ _ _ _ _ c.in-Some.is c.begun_at-b.ensures.1 in let o = c.loop-durative.invariant.3 c.requires.2.0 (length c.args.text.now + 1) c.requires.2.1 (omega arith) in (f.1, c.requires.2, c.requires.3, (declarations o.before, o.rowed), omega (arith, f.0, f.1, c.loop-durative.invariant.2))

pub returns-in_err-after : goal.returns-in_err-after
returns-in_err-after c = let p = err_from_is_err_and c.from_residual.result c.from_residual.ensures.1 in rw (p.1, p.2, ← c.in_err-after.was) ((λ x k h e. onward_refused _ x k _ _ _ _ _ _ _ _ _ (c.loop-durative.invariant.3 x k h e) _ _ _ c.in-Some.is (c.begun_at-b.ensures.0 ((c.loop-durative.invariant.3 x k h e).fuel - 1) x (c.loop-durative.invariant.3 x k h e).before) _ _ _ _ (c.action_at.ensures.0 x (c.loop-durative.invariant.3 x k h e).before h (c.loop-durative.invariant.3 x k h e).rowed) _ _ c.in_err-after.was, later_refused _ _ _ _ _ c.in_err-after.was))

pub overflow_add-n : goal.overflow_add-n
overflow_add-n c = let o = c.loop-durative.invariant.3 c.requires.2.0 (length c.args.text.now + 1) c.requires.2.1 (omega arith) in omega (arith, o.rowed.fits)

pub loop-durative-smaller : goal.loop-durative-smaller
loop-durative-smaller c = let f = further_at _ _ _ _ _ c.in-Some.is c.begun_at-b.ensures.1 in let z = ended_at 0 _ _ _ _ _ _ c.in_ok-after.was c.action_at.ensures.1 in omega (arith, f.0, z.0, z.1)

pub loop-durative-preserved : goal.loop-durative-preserved
loop-durative-preserved c = let f = further_at _ _ _ _ _ c.in-Some.is c.begun_at-b.ensures.1 in let z = ended_at 0 _ _ _ _ _ _ c.in_ok-after.was c.action_at.ensures.1 in (omega (arith, f.0, z.0, c.loop-durative.invariant.0), z.1, omega (arith, f.0, z.0, z.3, c.loop-durative.invariant.2), λ x k h e. onward_more _ x k _ _ _ _ _ _ _ _ _ (c.loop-durative.invariant.3 x k h e) _ _ _ c.in-Some.is (c.begun_at-b.ensures.0 ((c.loop-durative.invariant.3 x k h e).fuel - 1) x (c.loop-durative.invariant.3 x k h e).before) _ _ _ _ (c.action_at.ensures.0 x (c.loop-durative.invariant.3 x k h e).before h (c.loop-durative.invariant.3 x k h e).rowed) _ _ c.in_ok-after.was (omega (arith, f.0, z.0)) z.1, c.rows-1.given ∙ c.loop-durative.invariant.4, c.code-1.given ∙ c.loop-durative.invariant.5, c.starts-1.given ∙ c.loop-durative.invariant.6)
