use mathlib.Core.Path.{◌≡◌}
use Rattle.domain_preparing.proofs.Acting.{Onward}
use Prim.Native.Nat.{◌+◌, ◌-◌, ◌*◌, ◌≤◌}
use lib.ListN.{length}
use Rattle.domain_forms.specs.Stored.{count_in, predicates_in, functions_in}
use Rattle.domain_preparing.proofs.actions.put_actions.Given as goal

abbrev pub invariant-loop-j : goal.invariant-loop-j
invariant-loop-j l = (l.j ≤ l.acting) × (385 ≤ l.u) × (l.u ≤ 385 + 1200000 * l.j) × (length l.rows ≡ length l.initial.rows) × Onward (count_in l.firsts) (predicates_in l.firsts) (functions_in l.firsts) l.code l.starts l.acting l.initial.rows l.rows l.j l.u

abbrev pub decreases-loop-j : goal.decreases-loop-j
decreases-loop-j l = l.acting - l.j
