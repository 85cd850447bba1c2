use mathlib.Core.Path.{◌≡◌}
use Rattle.text_tokens.specs.Runs.{run_end}
use Rattle.text_tokens.proofs.runs.run_end.Given as goal

abbrev pub invariant-loop-at : goal.invariant-loop-at
invariant-loop-at l = run_end l.text l.stop l.from ≡ run_end l.text l.stop l.at
