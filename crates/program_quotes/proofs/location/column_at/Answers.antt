use Rattle.program_quotes.proofs.Steps.{before_place}
use mathlib.Core.Path.{ap}
use Prim.Native.Nat.{ℕ, ◌+◌}
use Rattle.program_quotes.proofs.location.column_at.Goals as goal

pub returns : goal.returns
returns c = ap (λ (n : ℕ). 1 + n) (before_place c.args.text.now c.args.place c.part_of.ensures c.bytes_behind.ensures.0)
