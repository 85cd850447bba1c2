-- What lies in parts, copied for a time: a part for it, one for another, and the end. Assumes nothing.
use mathlib.Core.Path.{◌≡◌, refl, sym, ◌∙◌}
use mathlib.Core.List.{List, [], ◌++◌}
use mathlib.Core.Bool.{Bool, true, false}
use Prim.Native.Nat.{ℕ, zero, suc, ◌+◌, ◌-◌, ◌≤◌, ◌<◌}
use native.Mathlib.Omega.{arith}
use lib.ListN.{length}
use borrow.Author.Tests.{lt-ltb, le-ltb, ne_eqb}
use Rattle.domain_meaning.specs.Actions.{When}
use Rattle.domain_rows.specs.Held.{byte_at}
use Rattle.domain_stored_meaning.specs.Decode.{Decoded, timed, when_of}
use Rattle.domain_stored_meaning.specs.Decode as stored
use Rattle.domain_prepared_meaning.specs.Preparing.{is_at, parts_at}
use Rattle.domain_forms.specs.Stored.{Stored}
use Rattle.domain_preparing.specs.Written.{Copies, all_of}
use Rattle.domain_forms.proofs.Storing.{sets_past, Toward, toward_as, toward_step, toward_end}

module _ {A : Type 0} (w : When) (f : ℕ → Decoded A) (bytes : A → List ℕ) (code : List ℕ) where
  -- the bytes of what is for the time, so many parts at most
  abbrev pub timely : ℕ → ℕ → List ℕ
  timely left j = all_of bytes (parts_at w (stored.parts_at f left code j).tree)

  module _ (i left : ℕ) where
    spent : left ≡ 0 → timely left i ≡ []
    unfolding stored.parts_at parts_at all_of
    spent h = rw h

    out : length code ≤ i → timely left i ≡ []
    unfolding stored.parts_at parts_at all_of
    out h = by_left left
      where
        by_left : (n : ℕ) → timely n i ≡ []
        by_left zero = refl
        by_left (suc n) = simp (le-ltb i (length code) h)

    module _ {tag : ℕ} (l : 0 < left) (h : i < length code) (t : tag ≡ byte_at code i) where
      last : tag ≡ 0 → timely left i ≡ []
      unfolding stored.parts_at parts_at all_of
      last z = let m : left ≡ suc (left - 1) = omega arith in rw m (simp (lt-ltb i (length code) h, ← t, z))

      module _ (z : tag ≡ 0 → ⊥) where
        step : (stored.parts_at f left code i).tree ≡ timed (when_of tag) (f (i + 1)).tree (stored.parts_at f (left - 1) code (f (i + 1)).next).tree
        unfolding stored.parts_at
        step = by_left left l
          where
            by_left : (n : ℕ) → 0 < n
                → (stored.parts_at f n code i).tree ≡ timed (when_of tag) (f (i + 1)).tree (stored.parts_at f (n - 1) code (f (i + 1)).next).tree
            by_left zero k = absurd (omega arith)
            by_left (suc n) k = let m : suc n - 1 ≡ n = omega arith in simp (lt-ltb i (length code) h, ← t, ne_eqb tag 0 z, m)

        counted : is_at (when_of tag) w ≡ true → timely left i ≡ bytes (f (i + 1)).tree ++ timely (left - 1) (f (i + 1)).next
        unfolding parts_at all_of
        counted e = rw (step, e)

        passed : is_at (when_of tag) w ≡ false → timely left i ≡ timely (left - 1) (f (i + 1)).next
        unfolding parts_at all_of
        passed e = rw (step, e)

    -- ---- what is left of the parts leads to the whole

    module _ (rows : List ℕ) (u : ℕ) (rows₀ : List ℕ) (u₀ : ℕ) (all : List ℕ) (o : Toward rows u (timely left i) rows₀ u₀ all) where
      pub parts_spent : left ≡ 0 → Stored rows₀ u₀ all rows u
      parts_spent h = toward_end rows u rows₀ u₀ all (toward_as (spent h) o)

      pub parts_out : length code ≤ i → Stored rows₀ u₀ all rows u
      parts_out h = toward_end rows u rows₀ u₀ all (toward_as (out h) o)

      module _ {tag : ℕ} (l : 0 < left) (h : i < length code) (t : tag ≡ byte_at code i) where
        pub parts_last : tag ≡ 0 → Stored rows₀ u₀ all rows u
        parts_last z = toward_end rows u rows₀ u₀ all (toward_as (last l h t z) o)

        module _ (z : tag ≡ 0 → ⊥) {b : Bool} (e : b ≡ is_at (when_of tag) w) {rows' : List ℕ} {n v : ℕ} where
          pub parts_counted : b ≡ true → Copies bytes rows u (f (i + 1)) rows' n v → Toward rows' v (timely (left - 1) n) rows₀ u₀ all
          parts_counted y c =
              rw c.ends (toward_step rows u rows₀ u₀ all (bytes (f (i + 1)).tree) _ (toward_as (counted l h t z (sym e ∙ y)) o) c.stored)

          -- copied past the end
          pub parts_passed : b ≡ false → {far : ℕ} → length rows ≤ far → Copies bytes rows far (f (i + 1)) rows' n v
              → Toward rows' u (timely (left - 1) n) rows₀ u₀ all
          parts_passed y {far} p c =
              rw (c.ends, c.stored.are ∙ sets_past rows far (bytes (f (i + 1)).tree) p) (toward_as (passed l h t z (sym e ∙ y)) o)
