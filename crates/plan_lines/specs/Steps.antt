-- What a line's reader answers, by what the definition says is read.
use Rattle.std.specs.Prelude.{◌≡◌, ℕ, ◌<◌, List, Result, Ok, Err}
use Rattle.std.proofs.Math.Option.{Option, some, none}
use Rattle.text_tokens.specs.declared.tokens.Token.{Token}
use Rattle.domain_meaning.specs.Read.{◌>>=◌, Read, Reader, got, refused}
use Rattle.domain_due.specs.Answers.{at}
use Rattle.domain_due.specs.declared.Refusal.{Refusal}
use Rattle.plan_meaning.specs.Plan.{Step}
use Rattle.plan_meaning.specs.Lines.{Known, start_at, act_at}
use Rattle.plan_meaning.specs.Promised.{Act}
use Rattle.plan_meaning.specs.Stored.{step_in}
use Rattle.plan_meaning.specs.declared.Step as D
use Rattle.plan_meaning.specs.declared.Line.{Line}
use Rattle.plan_meaning.specs.declared.Line.TheVariants as L

-- `line_at` of the definition after its first token t, which isn't the line's end
unfoldable pub step_from : List ℕ → Known → ℕ → ℕ → Token → Reader (Step Act)
step_from s k n before t = do
  start ← start_at before t
  act_at s k n start

-- its action is one of n, and its times are numbers of a plan line
abbrev pub Within : ℕ → D.Step → Type 0
Within n x = (x.action < n) × (x.start < 1000000000000) × (x.duration < 1000000000000)

-- a step was read: the answer holds its numbers
unfoldable pub Stepped : ℕ → Result D.Step Refusal → Read (Step Act) → Type 0
Stepped n r (got x at) = (y : D.Step) × (r ≡ Ok y) × (step_in y ≡ x) × Within n y
Stepped n r (refused k p) = r ≡ Err (at k p)

unfoldable pub Lined : ℕ → Line → Read (Option (Step Act)) → Type 0
Lined n r (got (some x) at) = (y : D.Step) × (r ≡ L.Read y) × (step_in y ≡ x) × Within n y
Lined n r (got none at) = r ≡ L.Blank
Lined n r (refused k p) = r ≡ L.Refused k p
