use mathlib.Core.Path.{◌≡◌}
use Prim.Native.Nat.{◌-◌}
use Rattle.happening_meetings.specs.Marks.{wipe_each}
use Rattle.happening_meetings.specs.Points.{accesses_in}
use Rattle.happening_meetings.proofs.clearing.wipe_all.Given as goal

abbrev pub invariant-loop-j : goal.invariant-loop-j
invariant-loop-j l = wipe_each l.marks (accesses_in l.rows l.points l.objects (l.n - l.j) l.j) ≡ wipe_each l.initial.marks (accesses_in l.rows l.points l.objects l.n 0)
