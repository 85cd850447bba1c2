-- Texts with the same tokens are read in the same way, whatever else they hold and however long they are.
use Rattle.std.specs.Prelude.{◌≡◌, List, ℕ, ◌+◌, get_or}
use Rattle.text_words.specs.Bytes.{bytes}
use Rattle.text_tokens.specs.Runs.{part}
use Rattle.text_tokens.specs.Tokens.{token_at, spot_at}
use Rattle.domain_meaning.specs.Due.{place_of, after_of}
use Rattle.domain_meaning.specs.Domain.{Domain, read_domain}
use Rattle.domain_meaning.specs.Problem.{read_problem}

-- what is looked at of the first token at or after a place: the token, its bytes, those after its mark, its first byte, and whether it is
-- one of the two words that are asked for by name
pub record SameAt (s u : List ℕ) (at : ℕ) : Type 0 where
  pub token : token_at s at ≡ token_at u at
  pub whole : part s (place_of (token_at s at)) (after_of (token_at s at)) ≡ part u (place_of (token_at s at)) (after_of (token_at s at))
  pub tail : part s (place_of (token_at s at) + 1) (after_of (token_at s at)) ≡ part u (place_of (token_at s at) + 1) (after_of (token_at s at))
  pub first : get_or s (place_of (token_at s at)) 0 ≡ get_or u (place_of (token_at s at)) 0
  pub either : spot_at s at (bytes "either") ≡ spot_at u at (bytes "either")
  pub duration : spot_at s at (bytes "?duration") ≡ spot_at u at (bytes "?duration")

abbrev pub AlikeInDomain : Type 0
AlikeInDomain = (s u : List ℕ) → ((at : ℕ) → SameAt s u at) → read_domain s ≡ read_domain u

abbrev pub AlikeInProblem : Type 0
AlikeInProblem = (s u : List ℕ) (d : Domain) → ((at : ℕ) → SameAt s u at) → read_problem s d ≡ read_problem u d
