-- How long an action lasts, as its reader answers it.
use Rattle.std.specs.Prelude.{ℕ, ◌+◌, ◌≤◌, List, Bool, true, false, Err}
use Rattle.text_words.specs.Bytes.{bytes}
use Rattle.text_tokens.specs.Tokens.{spot_at}
use Rattle.domain_meaning.specs.Read.{◌>>=◌, Reader, give}
use Rattle.domain_meaning.specs.Due.{token, opening, fixed}
use Rattle.domain_meaning.specs.Terms.{Scope}
use Rattle.domain_meaning.specs.Actions.{Lasting, moment, rule, rule_head, duration_spot, duration_rule}
use Rattle.domain_due.specs.Answers.{Parsed}
use Rattle.domain_due.specs.Answers.{Done, Refused}

-- a rule up to its expression
unfoldable pub rule_begun : List ℕ → Reader ℕ
rule_begun s = do
  _ ← opening s 14
  h ← token s
  _ ← rule_head s h
  λ at. duration_spot s (spot_at s at (bytes "?duration")) at

-- what an action's body begins with: of a durative action its rule, of a simple one nothing
unfoldable pub lasting_of : Bool → List ℕ → Scope → Reader Lasting
lasting_of true s c = do
  _ ← fixed s 14 ":duration"
  x ← duration_rule s c
  give (rule x)
lasting_of false s c = give moment

-- the place after is within the text's n bytes and not before `at`; at most one cell more was written than bytes were read
unfoldable pub Reached : ℕ → ℕ → ℕ → Parsed → Type 0
Reached n used at (Done a v) = (at ≤ a) × (a ≤ n) × (used ≤ v) × (v + at ≤ used + a + 1)
Reached n used at (Err why) = Unit {0}
