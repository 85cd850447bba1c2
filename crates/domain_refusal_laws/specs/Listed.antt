-- Every refusal of a domain or a problem is a listed one: its number and its place. In particular none has the number 0.
use Rattle.std.specs.Prelude.{◌≡◌, List, ℕ, ◌≤◌, ◌<◌, length}
use Rattle.domain_meaning.specs.Read.{refused}
use Rattle.domain_meaning.specs.Domain.{Domain, read_domain}
use Rattle.domain_meaning.specs.Problem.{read_problem}

-- number k at place p of a text of so many bytes: "Places are byte offsets from 0", and the text's end is one too
pub record Listed (most size k p : ℕ) : Type 0 where
  pub least : 1 ≤ k
  pub highest : k ≤ most
  pub inside : p ≤ size
  pub low : p ≤ 32768
  -- "1 domain or problem too long: 32,768"
  pub long : k ≡ 1 → (p ≡ 32768) × (32768 < size)

abbrev pub ListedInDomain : Type 0
ListedInDomain = (s : List ℕ) (k p : ℕ) → read_domain s ≡ refused k p → Listed 12 (length s) k p

-- "13 problem names another domain"
abbrev pub ListedInProblem : Type 0
ListedInProblem = (s : List ℕ) (d : Domain) (k p : ℕ) → read_problem s d ≡ refused k p → Listed 13 (length s) k p
