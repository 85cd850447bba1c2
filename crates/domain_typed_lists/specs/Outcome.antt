-- What a function answers and what its rows hold, by what the definition says is read; and what a caller may count on.
use Rattle.std.specs.Prelude.{◌≡◌, ℕ, ◌≤◌, ◌<◌, List, ◌∷◌, map, length, Err}
use Rattle.std.proofs.lemmas.List.Edits.{sets}
use Rattle.domain_meaning.specs.Read.{Read, got, refused}
use Rattle.domain_meaning.specs.Tables.{Table, type_of}
use Rattle.domain_due.specs.Answers.{Parsed, Done, Refused}
use Rattle.domain_rows.specs.Held.{Holds}

-- a table was read: the answer has its length, and the m rows hold it
unfoldable pub Outcome : ℕ → Parsed → List ℕ → Read Table → Type 0
Outcome m r rows (got t n) = (r ≡ Done n (length t)) × Holds m rows (length t) t
Outcome m r rows (refused k p) = r ≡ Refused k p

-- variables were read: their number and their types stand in front of the numbers
unfoldable pub Signed : ℕ → Parsed → List ℕ → List ℕ → Read Table → Type 0
Signed m r was now (got vs n) = (r ≡ Done n (length vs)) × (length vs ≤ m) × (now ≡ sets was 0 (length vs ∷ map type_of vs))
Signed m r was now (refused k p) = r ≡ Refused k p

-- the number read is below b
unfoldable pub Below : ℕ → Parsed → Type 0
Below b (Done a v) = v < b
Below b (Err why) = Unit {0}

-- there is room for a name more
unfoldable pub Room : ℕ → ℕ → Parsed → Type 0
Room m n (Done a v) = n < m
Room m n (Err why) = Unit {0}
