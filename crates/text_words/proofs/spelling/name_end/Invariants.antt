use mathlib.Core.Path.{◌≡◌}
use Rattle.text_words.specs.NameEnds.{name_end}
use Rattle.text_words.proofs.spelling.name_end.Given as goal

abbrev pub invariant-loop-at : goal.invariant-loop-at
invariant-loop-at l = name_end l.w l.from ≡ name_end l.w l.at
