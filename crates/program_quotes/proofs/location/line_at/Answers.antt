use Rattle.program_quotes.proofs.Steps.{front}
use mathlib.Core.Path.{ap, ◌∙◌}
use Prim.Native.Nat.{ℕ, ◌+◌}
use mathlib.Core.List.{List}
use Rattle.program_quotes.specs.Location.{line_ends}
use Rattle.program_quotes.proofs.location.line_at.Goals as goal

pub returns : goal.returns
returns c = ap (λ (n : ℕ). 1 + n) (c.line_ends.ensures.0 ∙ ap (λ (l : List ℕ). line_ends l) (c.part_of.ensures ∙ front c.args.text.now c.args.place))
