-- Where a section that may be missing ends.
use Rattle.std.specs.Prelude.{ℕ, ◌≤◌, Err}
use Rattle.domain_due.specs.Answers.{Parsed, Done}

-- the place after is within the text's n bytes and not before `at`
unfoldable pub Onwards : ℕ → ℕ → Parsed → Type 0
Onwards n at (Done a v) = (at ≤ a) × (a ≤ n)
Onwards n at (Err why) = Unit {0}
