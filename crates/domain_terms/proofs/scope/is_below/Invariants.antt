use mathlib.Core.Path.{◌≡◌}
use Prim.Native.Nat.{◌-◌}
use Rattle.domain_terms.specs.Raw.{below_in}
use Rattle.domain_terms.proofs.scope.is_below.Given as goal

abbrev pub invariant-loop : goal.invariant-loop
invariant-loop l = below_in l.n l.tables l.n l.a l.b ≡ below_in (l.n - l.counter) l.tables l.n l.x l.b
