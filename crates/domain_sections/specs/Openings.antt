-- What is answered of a section that was asked for, and of a heading.
use Rattle.std.specs.Prelude.{ℕ, ◌+◌, ◌≤◌, ◌<◌, length, None, Option, Some, Err, Result, Ok}
use Rattle.domain_meaning.specs.Read.{Read, got, refused}
use Rattle.domain_meaning.specs.Domain.{opened, other}
use Rattle.domain_meaning.specs.Domain as Domain
use Rattle.domain_meaning.specs.Due.{Name}
use Rattle.domain_due.specs.declared.Refusal.{Refusal}
use Rattle.domain_due.specs.Answers.{at}

-- a heading that was read
abbrev pub Titled : Type 0
Titled = Result (ℕ × ℕ × ℕ) Refusal

-- the place after it, and its name from, to
pattern abbrev pub At : ℕ → ℕ → ℕ → Titled
At a p e = Ok (a, p, e)

-- the refusal's number and place
abbrev pub Refused : ℕ → ℕ → Titled
Refused k p = Err (at k p)

abbrev pub opened_of : Read Domain.Opened → Option (ℕ × ℕ)
opened_of (got (opened p) n) = Some (p, n)
opened_of (got other n) = None
opened_of (refused k p) = None

-- its word ends within the text's n bytes, past `from`
unfoldable pub Further : ℕ → ℕ → Option (ℕ × ℕ) → Type 0
Further n from (Some (p, e)) = (from < e) × (e ≤ n)
Further n from None = Unit {0}

-- a heading was read: the place after it, and its name from, to
abbrev pub titled_of : Read Name → Titled
titled_of (got n a) = At a n.place (n.place + length n.word)
titled_of (refused k p) = Refused k p

-- the place after is within the text's n bytes
unfoldable pub TitledIn : ℕ → Titled → Type 0
TitledIn n (At a p e) = a ≤ n
TitledIn n (Err why) = Unit {0}
