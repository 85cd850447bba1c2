use mathlib.Core.Path.{◌≡◌}
use Prim.Native.Nat.{◌-◌, ◌+◌, ◌≤◌}
use lib.ListN.{length}
use Rattle.text_words.specs.Spelling.{place_from, word_in}
use Rattle.text_words.proofs.Steps.{words_at_lem}
use Rattle.text_words.proofs.spelling.word_in.Given as goal

abbrev pub invariant-loop-at : goal.invariant-loop-at
invariant-loop-at l = (l.at ≤ length l.list + 1) × (l.i ≤ l.at) × (word_in l.list l.w ≡ place_from l.i (words_at_lem l.list l.at) l.w)

abbrev pub decreases-loop-at : goal.decreases-loop-at
decreases-loop-at l = length l.list + 1 - l.at
