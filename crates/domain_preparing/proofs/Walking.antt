-- Lists of trees copied one after the other: what is left of the list, copied after what was, is the whole. Assumes nothing.
use mathlib.Core.Path.{◌≡◌, refl}
use mathlib.Core.List.{List, [], ◌++◌}
use Prim.Native.Nat.{ℕ}
use Rattle.domain_stored_meaning.specs.Decode.{Decoded, decoded, both}
use Rattle.domain_preparing.specs.Written.{Copies}
use Rattle.domain_forms.proofs.Storing.{Toward, toward_start, toward_as, toward_step, toward_end}

-- from d on, with l and u as they are now, to all from l₀ and u₀
pub record Walk {A : Type 0} (bytes : A → List ℕ) (l₀ : List ℕ) (u₀ : ℕ) (all : Decoded A) (l : List ℕ) (u : ℕ) (d : Decoded A) : Type 0 where
  pub toward : Toward l u (bytes d.tree) l₀ u₀ (bytes all.tree)
  pub ends : d.next ≡ all.next

module _ {A : Type 0} (bytes : A → List ℕ) (l₀ : List ℕ) (u₀ : ℕ) (all : Decoded A) where
  pub walk_start : Walk bytes l₀ u₀ all l₀ u₀ all
  walk_start = record { toward = toward_start l₀ u₀ (bytes all.tree); ends = refl }

  module _ {l : List ℕ} {u : ℕ} {d : Decoded A} (w : Walk bytes l₀ u₀ all l u d) where
    pub walk_end : {x : A} {n : ℕ} → d ≡ decoded x n → bytes x ≡ [] → Copies bytes l₀ u₀ all l n u
    walk_end {x} {n} e b =
        let v : Walk bytes l₀ u₀ all l u (decoded x n) = rw e at w in
        record { stored = toward_end l u l₀ u₀ (bytes all.tree) (toward_as b v.toward); ends = v.ends }

    -- the first of what is left is a, and the rest is read by g after it
    pub walk_step : {B : Type 0} (bytes₁ : B → List ℕ) {f : B → A → A} {a : Decoded B} (g : ℕ → Decoded A) → d ≡ both f a g
        → ((x : B) (y : A) → bytes (f x y) ≡ bytes₁ x ++ bytes y) → {l' : List ℕ} {n v : ℕ} → Copies bytes₁ l u a l' n v
        → Walk bytes l₀ u₀ all l' v (g n)
    walk_step bytes₁ {f} {a} g e b c =
        let o : Walk bytes l₀ u₀ all l u (both f a g) = rw e at w in
        rw c.ends
        (record {
          toward =
              toward_step l u l₀ u₀ (bytes all.tree) (bytes₁ a.tree) (bytes (g a.next).tree) (toward_as (b a.tree (g a.next).tree) o.toward)
              c.stored;
          ends = o.ends;
        })
