-- The points of slots: their times, the latest of them, and one slot more. Assumes nothing.
use Prim.Native.Nat.{ℕ, ◌+◌, ◌<◌, max}
use mathlib.Core.Bool.{true, false}
use mathlib.Core.List.{List, [], ◌∷◌, ◌++◌, map, map-append}
use mathlib.Core.Path.{◌≡◌, refl, sym, ap, ◌∙◌}
use native.Mathlib.Numerals.{add-one}
use native.Mathlib.Omega.{arith}
use borrow.Author.Tests.{ne_eqb}
use lib.ListN.{length, take, get_or}
use lib.Seq.{take-suc, append_snoc}
use Rattle.plan_meaning.specs.Plan.{Point, time, points_of, latest}
use Rattle.plan_meaning.specs.Promised.{Act}
use Rattle.plan_meaning.specs.Stored.{span_in, step_in, point_in}
use Rattle.plan_meaning.specs.declared.Step.{Step}
use Rattle.plan_meaning.specs.declared.Slot.{Slot}
use Rattle.plan_waiting.specs.Waiting.{no_slot}

-- ---- the time of a point

pub end_time : (s : Slot) → s.ends ≡ true → time (point_in s) ≡ s.step.start + s.step.duration
unfolding point_in step_in
end_time s e = rw e

pub start_time : (s : Slot) → s.ends ≡ false → time (point_in s) ≡ s.step.start
unfolding point_in step_in
start_time s e = rw e

-- ---- the points of a step

module _ (x : Step) where
  abbrev pub start_of : Slot
  start_of = record { step = x; ends = false }

  abbrev pub end_of : Slot
  end_of = record { step = x; ends = true }

  pub one_point : x.duration ≡ 0 → points_of (step_in x) ≡ point_in start_of ∷ []
  unfolding point_in step_in span_in
  one_point e = rw e

  pub two_points : (x.duration ≡ 0 → ⊥) → points_of (step_in x) ≡ point_in start_of ∷ point_in end_of ∷ []
  unfolding point_in step_in span_in
  two_points e = rw (ne_eqb x.duration 0 e)

  module _ (waits all : List (Point Act)) where
    pub one_more : x.duration ≡ 0 → all ≡ waits ++ point_in start_of ∷ [] → all ≡ waits ++ points_of (step_in x)
    one_more e h = h ∙ ap (λ (ps : List (Point Act)). waits ++ ps) (sym (one_point e))

    pub two_more : (x.duration ≡ 0 → ⊥) → all ≡ waits ++ (point_in start_of ∷ []) ++ point_in end_of ∷ [] → all ≡ waits ++ points_of (step_in x)
    two_more e h = h ∙ append_snoc waits (point_in start_of) (point_in end_of ∷ []) ∙ ap (λ (ps : List (Point Act)). waits ++ ps) (sym (two_points e))

-- ---- one slot more

pub points_more : (l : List Slot) (i : ℕ) → i < length l → map point_in (take (i + 1) l) ≡ map point_in (take i l) ++ point_in (get_or l i no_slot) ∷ []
points_more l i h = rw (add-one, take-suc l i no_slot h) (map-append point_in (take i l) (get_or l i no_slot ∷ []))

latest_snoc : (ps : List (Point Act)) (p : Point Act) → latest (ps ++ p ∷ []) ≡ max (time p) (latest ps)
latest_snoc [] p = refl
latest_snoc (q ∷ ps) p = rw (latest_snoc ps p) (omega arith)

pub latest_more : (l : List Slot) (i : ℕ) → i < length l
    → latest (map point_in (take (i + 1) l)) ≡ max (time (point_in (get_or l i no_slot))) (latest (map point_in (take i l)))
latest_more l i h = rw (points_more l i h) (latest_snoc (map point_in (take i l)) (point_in (get_or l i no_slot)))
