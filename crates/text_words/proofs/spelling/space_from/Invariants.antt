use mathlib.Core.Path.{◌≡◌}
use Rattle.text_words.specs.Spelling.{space_from}
use Rattle.text_words.proofs.spelling.space_from.Given as goal

abbrev pub invariant-loop-at : goal.invariant-loop-at
invariant-loop-at l = space_from l.list l.from ≡ space_from l.list l.at
