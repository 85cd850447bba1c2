use mathlib.Core.Path.{◌≡◌}
use mathlib.Core.Bool.{true}
use Prim.Native.Nat.{◌≤◌}
use lib.ListN.{length, drop}
use Rattle.text_words.specs.Spelling.{same_word}
use Rattle.text_words.proofs.spelling.same_word.Given as goal

abbrev pub invariant-loop-i : goal.invariant-loop-i
invariant-loop-i l = (l.i ≤ length l.a) × (same_word (drop l.i l.a) (drop l.i l.b) ≡ true)
