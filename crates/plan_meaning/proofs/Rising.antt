-- No line gives a step that starts below the previous one: what `fed` asks of the reader of lines. Assumes nothing.
use mathlib.Core.Path.{◌≡◌}
use mathlib.Core.List.{List, []}
use Prim.Native.Nat.{ℕ, ◌≤◌}
use Rattle.domain_meaning.specs.Actions.{Action}
use Rattle.happening_meaning.specs.State.{State}
use Rattle.happening_meaning.specs.Happening.{Promises}
use Rattle.plan_meaning.specs.Plan.{Step, step, first_refusal}
use Rattle.plan_meaning.specs.Text.{lines, answers, judged, meaning}
use Rattle.plan_meaning.specs.Feed.{joined, feed, feeds, new, close}
use Rattle.plan_meaning.specs.Promised.{Act, rules_of}
use Rattle.plan_meaning.specs.Lines.{Known, reader, limits}
use Rattle.plan_meaning.proofs.Text.{fed}
use Rattle.plan_meaning.proofs.Judged.{stop_in, decided}
use Rattle.plan_meaning.proofs.Bounds.{empty_line_lem}
use Rattle.plan_meaning.proofs.Steps.{reads_steps}

pub rising : (k : Known) (n before : ℕ) (l : List ℕ) (x : Step Act) → (reader k).line n before l ≡ step x → before ≤ x.start
rising k n before l x e = (reads_steps k n before l x e).rises

-- ---- the machine, fed a plan in any parts, gives what the plan means

pub whole : (P : Promises) (as' : List Action) (s : State) (k : Known) (ps : List (List ℕ))
    → close (rules_of P as' s) limits (reader k) (feeds (rules_of P as' s) limits (reader k) (new (rules_of P as' s) limits (reader k)) ps)
    ≡ meaning (rules_of P as' s) limits (reader k) (joined ps)
whole P as' s k ps = fed (rules_of P as' s) limits (reader k) (rising k) ps

-- ---- and while the plan may go on, what halts it is what is judged so far

pub judged_so_far : (P : Promises) (as' : List Action) (s : State) (k : Known) (text : List ℕ)
    → stop_in (feed (rules_of P as' s) limits (reader k) (new (rules_of P as' s) limits (reader k)) text)
    ≡ first_refusal limits [] (answers (reader k) 1 0 (judged (reader k) 1 (lines text)))
judged_so_far P as' s k text = decided (rules_of P as' s) limits (reader k) (empty_line_lem k) (rising k) text
