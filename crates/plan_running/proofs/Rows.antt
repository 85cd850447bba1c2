-- A point laid after those that lie there: four numbers and four objects. Assumes nothing.
use Prim.Native.Nat.{ℕ, ◌+◌, ◌*◌, ◌≤◌, ◌<◌}
use mathlib.Core.List.{List, [], ◌∷◌, ◌++◌}
use mathlib.Core.Path.{◌≡◌, refl, sym, ◌∙◌}
use native.Mathlib.Omega.{arith}
use lib.ListN.{length, get_or, set, length-set}
use lib.Seq.{get_or-set_same, get_or-set_other}
use Rattle.happening_forms.specs.Summed.{four_at}
use Rattle.happening_placing.proofs.Placing.{four_are}
use Rattle.plan_meaning.specs.declared.Slot.{Slot}
use Rattle.plan_waiting.specs.Lent.{when_in}
use Rattle.plan_running.specs.Laid.{Laid}

-- ---- four numbers from place n on

set_above : (xs : List ℕ) (n k v : ℕ) → k < n → get_or (set xs n v) k 0 ≡ get_or xs k 0
set_above xs n k v h = get_or-set_other xs n k v 0 (λ e. let y : ⊥ = omega (arith, e) in y)

abbrev one : List ℕ → ℕ → ℕ → List ℕ
one xs n p = set xs n p

abbrev two : List ℕ → ℕ → ℕ → ℕ → List ℕ
two xs n p q = set (one xs n p) (n + 1) q

abbrev three : List ℕ → ℕ → ℕ → ℕ → ℕ → List ℕ
three xs n p q r = set (two xs n p q) (n + 2) r

abbrev pub four : List ℕ → ℕ → ℕ → ℕ → ℕ → ℕ → List ℕ
four xs n p q r s = set (three xs n p q r) (n + 3) s

module _ (xs : List ℕ) (n p q r s : ℕ) where
  last_above : (k : ℕ) → k < n + 3 → get_or (four xs n p q r s) k 0 ≡ get_or (three xs n p q r) k 0
  last_above k h = set_above (three xs n p q r) (n + 3) k s h

  two_above : (k : ℕ) → k < n + 2 → get_or (four xs n p q r s) k 0 ≡ get_or (two xs n p q) k 0
  two_above k h = last_above k (omega arith) ∙ set_above (two xs n p q) (n + 2) k r h

  three_above : (k : ℕ) → k < n + 1 → get_or (four xs n p q r s) k 0 ≡ get_or (one xs n p) k 0
  three_above k h = two_above k (omega arith) ∙ set_above (one xs n p) (n + 1) k q h

  four_below : (k : ℕ) → k < n → get_or (four xs n p q r s) k 0 ≡ get_or xs k 0
  four_below k h = three_above k (omega arith) ∙ set_above xs n k p h

  module _ (room : n + 4 ≤ length xs) where
    four_0 : get_or (four xs n p q r s) n 0 ≡ p
    four_0 = three_above n (omega arith) ∙ get_or-set_same xs n p 0 (omega arith)

    four_1 : get_or (four xs n p q r s) (n + 1) 0 ≡ q
    four_1 = two_above (n + 1) (omega arith) ∙ get_or-set_same (one xs n p) (n + 1) q 0 (simp length-set (omega arith))

    four_2 : get_or (four xs n p q r s) (n + 2) 0 ≡ r
    four_2 = last_above (n + 2) (omega arith) ∙ get_or-set_same (two xs n p q) (n + 2) r 0 (simp length-set (omega arith))

    four_3 : get_or (four xs n p q r s) (n + 3) 0 ≡ s
    four_3 = get_or-set_same (three xs n p q r) (n + 3) s 0 (simp length-set (omega arith))

-- ---- objects

module _ (os : List ℕ) (j a b c d : ℕ) where
  objects_there : 4 * j + 4 ≤ length os → four_at (four os (4 * j) a b c d) j ≡ a ∷ b ∷ c ∷ d ∷ []
  objects_there h =
      four_are (four os (4 * j) a b c d) j (four_0 os (4 * j) a b c d h) (four_1 os (4 * j) a b c d h) (four_2 os (4 * j) a b c d h)
      (four_3 os (4 * j) a b c d h)

  objects_below : (k : ℕ) → k < j → four_at (four os (4 * j) a b c d) k ≡ four_at os k
  objects_below k h =
      four_are (four os (4 * j) a b c d) k (four_below os (4 * j) a b c d (4 * k) (omega arith)) (four_below os (4 * j) a b c d (4 * k + 1) (omega arith))
      (four_below os (4 * j) a b c d (4 * k + 2) (omega arith)) (four_below os (4 * j) a b c d (4 * k + 3) (omega arith))
      ∙ sym (four_are os k refl refl refl refl)

-- ---- a point, laid as number j

module _ (points objects : List ℕ) (j : ℕ) (s : Slot) where
  abbrev pub points_with : List ℕ
  points_with = four points (4 * j) s.step.line s.step.action (when_in s.ends) s.step.duration

  abbrev pub objects_with : List ℕ
  objects_with = four objects (4 * j) s.step.a s.step.b s.step.c s.step.d

  kept : (i : ℕ) → i < 4 * j → get_or points_with i 0 ≡ get_or points i 0
  kept i h = four_below points (4 * j) s.step.line s.step.action (when_in s.ends) s.step.duration i h

  module _ (long : 4 * j + 4 ≤ length points) (wide : 4 * j + 4 ≤ length objects) where
    laid_there : Laid points_with objects_with j (s ∷ [])
    unfolding Laid
    laid_there = (
      four_0 points (4 * j) s.step.line s.step.action (when_in s.ends) s.step.duration long,
      four_1 points (4 * j) s.step.line s.step.action (when_in s.ends) s.step.duration long,
      four_2 points (4 * j) s.step.line s.step.action (when_in s.ends) s.step.duration long,
      four_3 points (4 * j) s.step.line s.step.action (when_in s.ends) s.step.duration long,
      objects_there objects j s.step.a s.step.b s.step.c s.step.d wide,
      tt,
    )

    -- after those from number k on
    pub laid_behind : (l : List Slot) (k : ℕ) → k + length l ≡ j → Laid points objects k l → Laid points_with objects_with k (l ++ s ∷ [])
    unfolding Laid
    laid_behind [] k e h = let z : k ≡ j = omega arith in rw z laid_there
    laid_behind (y ∷ l) k e h = (
      kept (4 * k) (omega arith) ∙ h.0,
      kept (4 * k + 1) (omega arith) ∙ h.1,
      kept (4 * k + 2) (omega arith) ∙ h.2,
      kept (4 * k + 3) (omega arith) ∙ h.3,
      objects_below objects j s.step.a s.step.b s.step.c s.step.d k (omega arith) ∙ h.4,
      laid_behind l (k + 1) (omega arith) h.5,
    )
