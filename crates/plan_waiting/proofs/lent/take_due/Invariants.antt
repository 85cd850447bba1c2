use Prim.Native.Nat.{ℕ, ◌+◌}
use mathlib.Core.Bool.{Bool}
use mathlib.Core.Path.{◌≡◌}
use lib.ListN.{length}
use Rattle.plan_waiting.specs.Lent.{Going}
use Rattle.plan_waiting.proofs.Sifting.{Sifting}
use Rattle.plan_waiting.proofs.lent.take_due.Given as goal

abbrev pub invariant-loop-m : goal.invariant-loop-m
invariant-loop-m l = (length l.words ≡ 640) × ((f : ℕ → Bool) → Going f l.initial.words l.begin (l.r + l.k) l.k → Sifting f l.initial.words l.words l.begin (l.r + l.k) l.m (l.r + l.m))
