-- What is said of the bytes left is said of the piece.
use mathlib.Core.Path.{◌≡◌}
use Prim.Native.Nat.{◌-◌}
use lib.ListN.{length, drop}
use Rattle.domain_holding.specs.Keeping.{kept_in, go_on}
use Rattle.domain_holding.proofs.take.Given as goal

abbrev pub invariant-loop-b : goal.invariant-loop-b
invariant-loop-b l = (length l.block ≡ length l.initial.block) × (go_on (length l.initial.block) (kept_in l.block l.kept) (drop l.b-index l.piece) ≡ go_on (length l.initial.block) (kept_in l.initial.block l.initial.kept) l.piece)
