-- What the closing bracket of a condition leaves.
use Rattle.std.specs.Prelude.{ℕ}
use Rattle.domain_meaning.specs.Read.{Read, got, refused}
use Rattle.domain_expressions.specs.Codes.{Progress, Done, Refused}

-- the bracket was read, after cells that end before `free`
abbrev pub closed_by : ℕ → ℕ → Read ℕ → Progress
closed_by free left (got p n) = Done n free left
closed_by free left (refused k p) = Refused k p
