-- Slots laid as points one after the other, and the points that they give. Assumes nothing.
use Prim.Native.Nat.{ℕ, suc, ◌+◌, ◌-◌, ◌<◌}
use mathlib.Core.Bool.{Bool, true, false}
use mathlib.Core.List.{List, [], ◌∷◌, ◌++◌, map}
use mathlib.Core.Path.{◌≡◌, refl, sym, ap, ◌∙◌}
use native.Mathlib.Numerals.{add-one}
use native.Mathlib.Omega.{arith}
use lib.ListN.{length, take, get_or, length-map}
use lib.Seq.{take-suc, take_all, length-take-le}
use Rattle.happening_placing.specs.Given.{step_in, point_in, points_in}
use Rattle.happening_placing.proofs.Placing.{step_are, point_start, point_end}
use Rattle.happening_meetings.proofs.Given.{points_end, points_step}
use Rattle.plan_meaning.specs.Lists.{keep}
use Rattle.plan_meaning.specs.declared.Slot.{Slot}
use Rattle.plan_waiting.specs.Waiting.{no_slot}
use Rattle.plan_running.specs.Lines.{step_on, point_on, is_at, points_on}
use Rattle.plan_running.specs.Laid.{Laid}

-- the first i of the slots lie there
pub record Laying (l : List Slot) (points objects : List ℕ) (i : ℕ) : Type 0 where
  pub laid : Laid points objects 0 (take i l)

pub lay_none : (l : List Slot) (points objects : List ℕ) → Laying l points objects 0
unfolding Laid
lay_none l points objects = record { laid = tt }

-- s is the next
module _ {l : List Slot} {points objects points' objects' : List ℕ} {i : ℕ} (k : Laying l points objects i) (h : i < length l) {s : Slot}
    (there : get_or l i no_slot ≡ s) where
  pub lay_next : ((m : List Slot) → length m ≡ i → Laid points objects 0 m → Laid points' objects' 0 (m ++ s ∷ [])) → Laying l points' objects' (i + 1)
  lay_next e = record { laid = rw (add-one, take-suc l i no_slot h, there) (e (take i l) (length-take-le i l (omega arith)) k.laid) }

-- ---- the points of the rows

module _ (rows points objects : List ℕ) where
  first_points : (n j : ℕ) → points_in rows points objects (suc n) j ≡ point_in rows points objects j ∷ points_in rows points objects n (j + 1)
  first_points n j =
      let a : j + suc n - j ≡ suc n = omega arith in
      let b : j + suc n - (j + 1) ≡ n = omega arith in
      rw (a, b) at (points_step rows points objects (j + suc n) j (omega arith))

  point_laid : (s : Slot) (ss : List Slot) (j : ℕ) → Laid points objects j (s ∷ ss) → point_in rows points objects j ≡ point_on rows s
  unfolding Laid
  point_laid s ss j r = go s.ends refl
    where
      step : step_in rows points objects j ≡ step_on rows s.step
      step = step_are rows points objects j r.0 r.1 r.3 r.4

      go : (b : Bool) → s.ends ≡ b → point_in rows points objects j ≡ point_on rows s
      go true e = rw e (point_end rows points objects j step (rw e at r.2))
      go false e = rw e (point_start rows points objects j step (rw e at r.2))

  all_laid : (ss : List Slot) (j : ℕ) → Laid points objects j ss → points_in rows points objects (length ss) j ≡ map (point_on rows) ss
  unfolding Laid
  all_laid [] j r = let z : j - j ≡ 0 = omega arith in rw z at (points_end rows points objects j j (omega arith))
  all_laid (s ∷ ss) j r = first_points (length ss) j ∙ (λ i. point_laid s ss j r i ∷ all_laid ss (j + 1) r.5 i)

-- ---- when all slots are gone through: they are those of the time t

module _ (t : ℕ) (l ss : List Slot) {k : ℕ} (n : length ss ≡ k) (e : ss ≡ keep (is_at t) l) where
  pub points_count : k ≡ length (points_on [] t l)
  points_count = sym n ∙ ap length e ∙ sym (length-map (keep (is_at t) l) (point_on []))

  pub points_laid : (rows : List ℕ) {points objects : List ℕ} → Laying ss points objects k → points_in rows points objects k 0 ≡ points_on rows t l
  points_laid rows {points} {objects} r =
      rw (← n, ← e) (all_laid rows points objects ss 0 (rw (take_all k ss (omega arith)) at r.laid))
