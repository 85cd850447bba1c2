-- A part that ends no line only makes the line longer.
use Rattle.std.specs.Prelude.{ℕ, ◌≤◌, ◌≡◌, List, false}
use Rattle.happening_meaning.specs.State.{State}
use Rattle.happening_meaning.specs.declared.Outcome.{Outcome}
use Rattle.plan_meaning.specs.Plan.{Rules}
use Rattle.plan_meaning.specs.Feed.{feed}
use Rattle.plan_meaning.specs.Promised.{Act}
use Rattle.plan_meaning.specs.Lines.{Known, reader, limits}
use Rattle.plan_waiting.specs.declared.Queue.{Queue}
use Rattle.plan_feeding.specs.Feeding.{held_in, counted}
use Rattle.plan_feeding.specs.declared.PlanProgress.{PlanProgress}

-- the part leads from a line to another, of n bytes, whatever the rules, the names and the rest of the check are
pub record Adds (p : PlanProgress) (line part after : List ℕ) (n : ℕ) : Type 0 where
  pub goes : p.refused ≡ false
  pub short : p.used ≤ 256 → n ≤ 256
  pub feeds : (R : Rules State Act Outcome) (k : Known) (s : State) (q : Queue)
      → held_in s after q (counted p p.number n) ≡ feed R limits (reader k) (held_in s line q p) part
