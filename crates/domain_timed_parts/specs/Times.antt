-- What is answered of a part's time.
use Rattle.std.specs.Prelude.{ℕ, List}
use Rattle.domain_meaning.specs.Read.{◌>>=◌, Read, Reader, got, refused, give}
use Rattle.domain_meaning.specs.Due.{token, fixed}
use Rattle.domain_meaning.specs.Actions.{When, whole, start_or_end}
use Rattle.domain_due.specs.Answers.{Parsed}
use Rattle.domain_due.specs.Answers.{Done, Refused}
use Rattle.domain_stored_meaning.specs.Cells.{when_cell}

-- a time was read: the place after it, and its cell
abbrev pub when_answer : Read When → Parsed
when_answer (got w n) = Done n (when_cell w)
when_answer (refused k p) = Refused k p

-- the word after `at`
unfoldable pub behind_at : List ℕ → ℕ → Reader When
behind_at s d = do
  t ← token s
  start_or_end s d t

-- the word after `over`
unfoldable pub behind_over : List ℕ → ℕ → Reader When
behind_over s d = do
  _ ← fixed s d "all"
  give whole
