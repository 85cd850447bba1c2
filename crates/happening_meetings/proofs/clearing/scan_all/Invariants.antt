use mathlib.Core.Path.{◌≡◌}
use mathlib.Core.Bool.{◌||◌}
use Prim.Native.Nat.{◌+◌, ◌-◌}
use Rattle.happening_meetings.specs.Marks.{no_marks, scan, mark_each}
use Rattle.happening_meetings.specs.Points.{accesses_in}
use Rattle.happening_meetings.proofs.Given.{ahead}
use Rattle.happening_meetings.proofs.clearing.scan_all.Given as goal

abbrev pub invariant-loop-j : goal.invariant-loop-j
invariant-loop-j l = ((l.found || ahead l.rows l.points l.objects l.last l.j l.marks) ≡ scan no_marks (accesses_in l.rows l.points l.objects (l.last + 1) 0)) × (mark_each l.marks (accesses_in l.rows l.points l.objects (l.last - l.j) l.j) ≡ mark_each no_marks (accesses_in l.rows l.points l.objects l.last 0))
