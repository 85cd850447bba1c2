-- Step 3 for two points: what one reads of what the other writes, and effects that can't be together; then pair by pair. Assumes nothing.
use mathlib.Core.Path.{◌≡◌, refl, ap, sym, ◌∙◌}
use mathlib.Core.List.{List, [], ◌∷◌}
use Prim.Native.Nat.{ℕ, zero, suc, ◌<◌}
use native.Mathlib.Omega.{arith}
use Rattle.happening_meaning.specs.State.{Grounds}
use Rattle.happening_meaning.specs.Happening.{marks}
use Rattle.happening_meaning.specs.Happening.{unless, each, pairs}
use Rattle.happening_meaning.specs.declared.Outcome.{Outcome}
use Rattle.happening_meaning.specs.declared.Outcome.TheVariants.{Done}
use Rattle.happening_meaning.proofs.Failing.{Fails, unless_done, unless_fails}
use Rattle.happening_forms.specs.Summed.{summed, four_at}
use Rattle.happening_placing.specs.Given.{placed_in, point_in, points_in}
use Rattle.happening_placing.specs.declared.Placed.{Placed}
use Rattle.happening_writes.specs.Rows.{marks_at}
use Rattle.happening_meetings.proofs.Given.{marks_are}

-- ---- what point j writes

pub marks_here : (rows points objects : List ℕ) (j : ℕ) {p : Placed} → p ≡ placed_in rows points j
    → marks_at rows (four_at objects j) p.effects ≡ marks summed (point_in rows points objects j)
marks_here rows points objects j e = ap (λ (q : Placed). marks_at rows (four_at objects j) q.effects) e ∙ sym (marks_are rows points objects j)

-- ---- f of each, up to the first failure

module _ {A : Type 0} (f : A → Outcome) {xs : List A} where
  pub each_end : xs ≡ [] → Done ≡ each f xs
  unfolding each
  each_end e = rw e

  pub each_turn : {x : A} {ys : List A} {o : Outcome} → xs ≡ x ∷ ys → o ≡ f x → o ≡ Done → each f ys ≡ each f xs
  unfolding each
  each_turn {x} {ys} e eo d = rw e (unless_done (each f ys) (sym eo ∙ d))

  pub each_fails : {x : A} {ys : List A} {o : Outcome} → xs ≡ x ∷ ys → o ≡ f x → Fails o → o ≡ each f xs
  unfolding each
  each_fails {x} {ys} {o} e eo h = rw (e, ← eo) (unless_fails o (each f ys) h)

-- ---- pairs

-- less than two points make no pair
pub pairs_none : (g : Grounds) (rows points objects : List ℕ) (n : ℕ) → n < 2 → Done ≡ pairs g (points_in rows points objects n 0)
unfolding pairs each unless points_in
pairs_none g rows points objects zero h = refl
pairs_none g rows points objects (suc zero) h = refl
pairs_none g rows points objects (suc (suc n)) h = absurd (omega (arith, h))
