-- What a line's reader answers, by the answer's variant: what the definition reads, and what the machine makes of it. Assumes nothing.
use mathlib.Core.Path.{◌≡◌, refl, sym, ap, ◌∙◌}
use Prim.Native.Nat.{ℕ, ◌+◌}
use mathlib.Core.Bool.{false}
use mathlib.Core.List.{List}
use mathlib.Core.Option.{Option, some, none}
use native.Mathlib.Omega.{arith}
use lib.ListN.{length}
use Rattle.domain_meaning.specs.Read.{Read, got, refused}
use Rattle.happening_meaning.specs.State.{State}
use Rattle.happening_meaning.specs.declared.Outcome.{Outcome}
use Rattle.plan_meaning.specs.Plan.{Step, Rules}
use Rattle.plan_meaning.specs.Machine.{Check, drain, drained}
use Rattle.plan_meaning.specs.Machine as M
use Rattle.plan_meaning.specs.Promised.{Act}
use Rattle.plan_meaning.specs.Lines.{Known, line_at, Refused, refused_at, answer_of, long_of, limits}
use Rattle.plan_meaning.specs.Stored.{step_in}
use Rattle.plan_meaning.specs.declared.Step as D
use Rattle.plan_meaning.specs.declared.Line.{Line}
use Rattle.plan_meaning.specs.declared.Line.TheVariants as L
use Rattle.plan_lines.specs.Steps.{Lined, Within}
use Rattle.plan_waiting.specs.Waiting.{waiting, no_step}
use Rattle.plan_waiting.specs.declared.Queue.{Queue}
use Rattle.plan_running.specs.Running.{run_in}
use Rattle.plan_feeding.specs.declared.PlanProgress.{PlanProgress}
use Rattle.plan_feeding.specs.Feeding.{refused_in, check_in, refusing}
use Rattle.plan_meaning.proofs.Steps.{line_steps}

-- ---- which variant, and what it holds

abbrev tag : Line → ℕ
tag L.Blank = 0
tag (L.Read y) = 1
tag (L.Refused k p) = 2

abbrev number_of : Line → ℕ
number_of L.Blank = 0
number_of (L.Read y) = 0
number_of (L.Refused k p) = k

abbrev place_of : Line → ℕ
place_of L.Blank = 0
place_of (L.Read y) = 0
place_of (L.Refused k p) = p

abbrev step_of : Line → D.Step
step_of L.Blank = no_step
step_of (L.Read y) = y
step_of (L.Refused k p) = no_step

-- the step that an answer holds was read
pub record Got (n : ℕ) (y : D.Step) (x : Read (Option (Step Act))) : Type 0 where
  pub at : ℕ
  pub is : x ≡ got (some (step_in y)) at
  pub within : Within n y

module _ (n : ℕ) (l : Line) where
  pub lined_blank : (x : Read (Option (Step Act))) → l ≡ L.Blank → Lined n l x → (at : ℕ) × (x ≡ got none at)
  unfolding Lined
  lined_blank (got (some y) at) b h = absurd (let z : ◌≡◌ {A = ℕ} 0 1 = ap tag (sym b ∙ h.1) in let y : ⊥ = omega (arith, z) in y)
  lined_blank (got none at) b h = (at, refl)
  lined_blank (refused k p) b h = absurd (let z : ◌≡◌ {A = ℕ} 0 2 = ap tag (sym b ∙ h) in let y : ⊥ = omega (arith, z) in y)

  pub lined_refused : (k p : ℕ) (x : Read (Option (Step Act))) → l ≡ L.Refused k p → Lined n l x → x ≡ refused k p
  unfolding Lined
  lined_refused k p (got (some y) at) b h = absurd (let z : ◌≡◌ {A = ℕ} 2 1 = ap tag (sym b ∙ h.1) in let y : ⊥ = omega (arith, z) in y)
  lined_refused k p (got none at) b h = absurd (let z : ◌≡◌ {A = ℕ} 2 0 = ap tag (sym b ∙ h) in let y : ⊥ = omega (arith, z) in y)
  lined_refused k p (refused j q) b h = let z : j ≡ k = ap number_of (sym h ∙ b) in let y : q ≡ p = ap place_of (sym h ∙ b) in rw (z, y)

  pub lined_read : (y : D.Step) (x : Read (Option (Step Act))) → l ≡ L.Read y → Lined n l x → Got n y x
  unfolding Lined
  lined_read y (got (some x) at) b h =
      let z : h.0 ≡ y = ap step_of (sym h.1 ∙ b) in
      record { at = at; is = rw (← z, h.2); within = rw (← z) h.3 }
  lined_read y (got none at) b h = absurd (let z : ◌≡◌ {A = ℕ} 1 0 = ap tag (sym b ∙ h) in let y : ⊥ = omega (arith, z) in y)
  lined_read y (refused k p) b h = absurd (let z : ◌≡◌ {A = ℕ} 1 2 = ap tag (sym b ∙ h) in let y : ⊥ = omega (arith, z) in y)

-- ---- a line that is too long

module _ (m n : ℕ) (l : Line) (x : Read (Option (Step Act))) (h : Lined n l x) where
  pub long_blank : l ≡ L.Blank → refused_at 14 m 256 ≡ long_of m x
  long_blank b = rw (lined_blank n l x b h).1

  pub long_read : (y : D.Step) → l ≡ L.Read y → refused_at 14 m 256 ≡ long_of m x
  long_read y b = rw (lined_read n l y x b h).is

  pub long_refused : (k p : ℕ) → l ≡ L.Refused k p → refused_at k m p ≡ long_of m x
  long_refused k p b = rw (lined_refused n l k p x b h)

pub refused_as : (p new : PlanProgress) (k place : ℕ) (r : Refused) → refused_at k p.number place ≡ r → new ≡ refusing p k (place + 1)
    → (refused_in new ≡ r) × (new ≡ refusing p new.refusal new.column)
refused_as p new k place r e is = (rw is e, rw is)

-- ---- a line that is taken

module _ (R : Rules State Act Outcome) (s : State) (q : Queue) (p : PlanProgress) (still : p.refused ≡ false) (n : ℕ) (l : Line)
    (x : Read (Option (Step Act))) (h : Lined n l x) where
  pub taken_blank : l ≡ L.Blank → check_in s q p ≡ M.take R limits (check_in s q p) (answer_of p.number x)
  unfolding check_in
  taken_blank b = rw (still, (lined_blank n l x b h).1)

  pub taken_refusal : (new : PlanProgress) (k place : ℕ) → l ≡ L.Refused k place → new ≡ refusing p k (place + 1)
      → check_in s q new ≡ M.take R limits (check_in s q p) (answer_of p.number x)
  unfolding check_in
  taken_refusal new k place b is = rw (is, still, lined_refused n l k place x b h)

  pub taken_step : (new : Check State Act Outcome Refused) (y : D.Step) → l ≡ L.Read y
      → new ≡ drained R limits (step_in y) (drain R (length (waiting q)) y.start (run_in p.past s) (waiting q))
      → new ≡ M.take R limits (check_in s q p) (answer_of p.number x)
  unfolding check_in step_in
  taken_step new y b is = rw (still, (lined_read n l y x b h).is) is

-- ---- the step of a line of a text

module _ (s : List ℕ) (k : Known) (m before n : ℕ) (y : D.Step) (g : Got n y (line_at s k m before 0)) where
  pub read_line : y.line ≡ m
  unfolding step_in
  read_line = (line_steps s k m before 0 (step_in y) g.at g.is).line

  pub read_width : y.width ≡ length s
  unfolding step_in
  read_width = (line_steps s k m before 0 (step_in y) g.at g.is).width
