use Prim.Native.Nat.{◌≤◌}
use mathlib.Core.Path.{sym, ◌∙◌}
use native.Mathlib.Omega.{arith}
use lib.ListN.{length}
use Rattle.happening_state.specs.States.{state_in}
use Rattle.plan_meaning.specs.Machine.{soonest}
use Rattle.plan_meaning.proofs.Drain.{drain_done}
use Rattle.plan_waiting.specs.Waiting.{waiting}
use Rattle.plan_running.specs.Running.{run_in, rules_in, queue_held}
use Rattle.plan_running.proofs.Fuel.{shrinks, round}
use Rattle.plan_running.proofs.Poising.{watched_left, watched_less}
use Rattle.plan_running.proofs.Workspace.drain_below.Goals as goal

pub loop-t-smaller : goal.loop-t-smaller
loop-t-smaller c = let w = c.loop-t.self in let v = c.loop-t.invariant in let settled = c.happen_at-p.ensures.1 in
    let later = rw (settled.words, settled.count) at c.later-self.ensures in
    let gone = later w.objects c.args.b v.8.kept v.1 in
    rw settled.objects (shrinks c.args.b (waiting (queue_held w)) v.1 c.loop-t-test.true gone.1)

pub loop-t-preserved : goal.loop-t-preserved
loop-t-preserved c = let a = c.args in let w = c.loop-t.self in let v = c.loop-t.invariant in let happened = c.happen_at-p.ensures in let settled = happened.1 in
    let later = rw (settled.words, settled.count) at c.later-self.ensures in
    let gone = later w.objects a.b v.8.kept v.1 in
    rw settled.objects (
      (v.0.0, gone.2 v.0.0 v.0.1),
      c.soonest-t-in-loop-t.ensures w.objects gone.0,
      λ goal es s sound few. round a.b (waiting (queue_held w)) v.1 c.loop-t-test.true gone.1 (rules_in a.rows.now goal es s) (run_in c.loop-t.p (state_in c.loop-t.facts c.loop-t.numbers)) (happened.0 goal es s (v.3 (length es) sound) few) (v.2 goal es s sound few),
      λ m h. gone.2 m (v.3 m h),
      v.4,
      omega (arith, v.5),
      omega (arith, v.6),
      omega (arith, v.7),
      record { kept = gone.0; clean = settled.clean; same = settled.same; watched = watched_left settled.spanned gone.0 gone.1 gone.3 },
    )

pub returns : goal.returns
returns c = let a = c.args in let w = c.loop-t.self in let v = c.loop-t.invariant in let waits = waiting (queue_held w) in
    let h = c.loop-t-test.false in
    let l : a.b ≤ soonest a.b waits = omega (arith, v.1) in (
      λ goal es s sound few. sym (drain_done (rules_in a.rows.now goal es s) a.b (length waits) (run_in c.loop-t.p (state_in c.loop-t.facts c.loop-t.numbers)) waits l) ∙ v.2 goal es s sound few,
      v.3,
      v.4,
      record { kept = v.8.kept; clean = v.8.clean; same = v.8.same; watched = watched_less v.8.watched c.claim_below.ensures },
      c.claim_below.ensures.most,
    )
