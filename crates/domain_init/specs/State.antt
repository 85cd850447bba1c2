-- What the reader of init answers.
use Rattle.std.specs.Prelude.{◌≡◌, List, ℕ, ℤ}
use Rattle.domain_meaning.specs.Read.{Read, got, refused}
use Rattle.domain_meaning.specs.Problem.{Init}
use Rattle.domain_meaning.specs.First.{first_facts, first_numbers}
use Rattle.domain_due.specs.Answers.{Parsed}
use Rattle.domain_due.specs.Answers.{Done, Refused}

-- init was read: the place after it, and the first facts and numbers
unfoldable pub Begins : Parsed → List ℕ → List ℤ → Read Init → Type 0
Begins r facts numbers (got x n) = (r ≡ Done n 0) × (facts ≡ first_facts x) × (numbers ≡ first_numbers x)
Begins r facts numbers (refused k p) = r ≡ Refused k p
