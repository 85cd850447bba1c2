use Rattle.std.proofs.Common.{◌≡◌, ◌-◌, ◌≤◌}
use Rattle.plan_ordering.specs.Keys.{shifted_at}
use Rattle.plan_ordering.proofs.put_in.Given as goal

abbrev pub invariant-loop-i : goal.invariant-loop-i
invariant-loop-i l = (l.begin ≤ l.i) × (shifted_at l.begin (l.i - l.begin) l.words l.p ≡ shifted_at l.begin l.n l.initial.words l.p)
