use mathlib.Core.Path.{◌≡◌}
use Prim.Native.Nat.{◌+◌}
use lib.ListN.{drop}
use lib.Seq.{sets}
use Rattle.check_wording.proofs.put_word.Given as goal

abbrev pub invariant-loop-x : goal.invariant-loop-x
invariant-loop-x l = (l.end ≡ l.at + l.x-index) × (sets l.out l.end (drop l.x-index l.w) ≡ sets l.initial.out l.at l.w)
