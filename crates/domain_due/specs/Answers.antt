-- What a function answers, by what the definition says is read.
use Rattle.std.specs.Prelude.{ℕ, ◌≤◌, ◌<◌, Result, Ok, Err}
use Rattle.domain_meaning.specs.Read.{Read, got, refused}
use Rattle.domain_meaning.specs.Due.{Name}
use Rattle.domain_due.specs.declared.Refusal.{Refusal}

-- what a reader answers
abbrev pub Parsed : Type 0
Parsed = Result (ℕ × ℕ) Refusal

-- the place after what was read, and a number
pattern abbrev pub Done : ℕ → ℕ → Parsed
Done n v = Ok (n, v)

-- the refusal's number and place
abbrev pub at : ℕ → ℕ → Refusal
at k p = record { 0 = k; 1 = p }

abbrev pub Refused : ℕ → ℕ → Parsed
Refused k p = Err (at k p)

-- a number was read
abbrev pub answer_of : Read ℕ → Parsed
answer_of (got a n) = Done n a
answer_of (refused k p) = Refused k p

-- a name was read: where it ends and where it begins
abbrev pub name_of : Read Name → Parsed
name_of (got a n) = Done n a.place
name_of (refused k p) = Refused k p

-- the place after is within the text's n bytes and past `at`
unfoldable pub Ahead : ℕ → ℕ → Parsed → Type 0
Ahead n from (Done a v) = (from < a) × (a ≤ n)
Ahead n from (Err r) = Unit {0}
