use Prim.Native.Nat.{ℕ, ◌≤◌}
use mathlib.Core.Path.{◌≡◌}
use lib.ListN.{length}
use Rattle.domain_meaning.specs.Tables.{Table}
use Rattle.domain_meaning.specs.Conditions.{Cond}
use Rattle.happening_meaning.specs.State.{State}
use Rattle.happening_state.specs.States.{state_in}
use Rattle.plan_meaning.specs.Machine.{soonest, drain}
use Rattle.plan_waiting.specs.Waiting.{waiting, Sound, Timed}
use Rattle.plan_running.specs.Running.{run_in, rules_in, queue_held, IsPoised}
use Rattle.plan_running.proofs.Workspace.drain_below.Given as goal

abbrev pub invariant-loop-t : goal.invariant-loop-t
invariant-loop-t l = let q₀ = queue_held l.initial.self in
    let q = queue_held l.self in
    Timed q
    × (l.t ≡ soonest l.b (waiting q))
    × ((c : Cond) (es : Table) (s : State) → Sound (length es) q₀ → length es ≤ 32
    → drain (rules_in l.rows c es s) (length (waiting q)) l.b (run_in l.p (state_in l.facts l.numbers)) (waiting q)
    ≡ drain (rules_in l.rows c es s) (length (waiting q₀)) l.b (run_in l.initial.p (state_in l.initial.facts l.initial.numbers)) (waiting q₀))
    × ((m : ℕ) → Sound m q₀ → Sound m q)
    × (l.self.objects ≡ l.initial.self.objects)
    × (length l.facts ≡ length l.initial.facts)
    × (length l.numbers ≡ length l.initial.numbers)
    × (length l.fresh ≡ length l.initial.fresh)
    × IsPoised l.rows l.self l.facts l.numbers l.fresh

abbrev pub decreases-loop-t : goal.decreases-loop-t
decreases-loop-t l = length (waiting (queue_held l.self))
