-- What is tested of points, in its parts and from them; and by the places of a loop. Assumes nothing.
use Prim.Native.Nat.{ℕ, ◌≤◌}
use mathlib.Core.Bool.{true}
use mathlib.Core.List.{List, [], ◌∷◌}
use mathlib.Core.Path.{◌≡◌, refl}
use borrow.Author.Tests.{le-leb}
use lib.Dec.{leb}
use Rattle.std.specs.List.{list_all}
use Rattle.base_laws.proofs.Splits.{and_left, and_right}
use Rattle.plan_meaning.specs.Listed.{listed_line}
use Rattle.plan_meaning.specs.declared.Step.{Step}
use Rattle.plan_meaning.specs.declared.Slot.{Slot}
use Rattle.plan_meaning.proofs.Listed.{line_of}
use Rattle.plan_waiting.specs.Waiting.{sound_step, sound_all, listed_step, step_fits, slots_fit}

-- ---- a step

module _ (x : Step) where
  pub listed_step_of : 1 ≤ x.line → x.line ≤ 1000000 → x.width ≤ 256 → listed_step x ≡ true
  unfolding listed_step
  listed_step_of lo hi w = rw (line_of x.line lo hi, le-leb x.width 256 w)

  pub listed_step_line : listed_step x ≡ true → listed_line x.line ≡ true
  unfolding listed_step
  listed_step_line h = and_left (listed_line x.line) (leb x.width 256) h

module _ (n : ℕ) where
  module _ (x : Step) where
    pub fits_sound : step_fits n x ≡ true → sound_step n x ≡ true
    fits_sound h = and_left (sound_step n x) (listed_step x) h

    pub fits_listed : step_fits n x ≡ true → listed_step x ≡ true
    fits_listed h = and_right (sound_step n x) (listed_step x) h

    pub fits_of : sound_step n x ≡ true → listed_step x ≡ true → step_fits n x ≡ true
    fits_of s l = rw (s, l)

  -- ---- points

  module _ (s : Slot) (ss : List Slot) where
    pub fit_first : slots_fit n (s ∷ ss) ≡ true → step_fits n s.step ≡ true
    unfolding slots_fit
    fit_first h = and_left (step_fits n s.step) (slots_fit n ss) h

    pub fit_rest : slots_fit n (s ∷ ss) ≡ true → slots_fit n ss ≡ true
    unfolding slots_fit
    fit_rest h = and_right (step_fits n s.step) (slots_fit n ss) h

    pub fit_more : step_fits n s.step ≡ true → slots_fit n ss ≡ true → slots_fit n (s ∷ ss) ≡ true
    unfolding slots_fit
    fit_more h k = rw (h, k)

  pub fit_none : slots_fit n [] ≡ true
  unfolding slots_fit
  fit_none = refl

  pub fit_sound : (l : List Slot) → slots_fit n l ≡ true → sound_all n l ≡ true
  unfolding sound_all
  fit_sound [] h = refl
  fit_sound (s ∷ ss) h = rw (fits_sound s.step (fit_first s ss h), fit_sound ss (fit_rest s ss h))

  pub fit_all : (l : List Slot) → slots_fit n l ≡ list_all (λ s. step_fits n s.step) l
  unfolding slots_fit
  fit_all [] = refl
  fit_all (s ∷ ss) = rw (fit_all ss)
