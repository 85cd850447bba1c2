use mathlib.Core.Path.{◌≡◌}
use Rattle.text_tokens.specs.Runs.{gap_end}
use Rattle.text_tokens.proofs.Steps.{gap_from}
use Rattle.text_tokens.proofs.runs.gap_end.Given as goal

abbrev pub invariant-loop-at : goal.invariant-loop-at
invariant-loop-at l = gap_end l.text l.from ≡ gap_from l.text l.comment l.at
