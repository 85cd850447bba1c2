-- Bytes stored one after the other: two stores are one of both, and what is left to store leads to the whole. Assumes nothing.
use mathlib.Core.Path.{◌≡◌, refl, ◌∙◌}
use mathlib.Core.List.{List, [], ◌∷◌, ◌++◌}
use Prim.Native.Nat.{ℕ, suc, ◌+◌, ◌≤◌}
use native.Mathlib.Omega.{arith}
use lib.ListN.{length, set, length-append}
use lib.Seq.{sets, set_out, length-sets}
use Rattle.base_laws.proofs.Sets.{sets_append, set_before}
use Rattle.domain_forms.specs.Stored.{Stored}

-- ---- stores that meet nothing

-- past the end nothing is stored
pub sets_past : (l : List ℕ) (u : ℕ) (xs : List ℕ) → length l ≤ u → sets l u xs ≡ l
sets_past l u [] h = refl
sets_past l u (x ∷ xs) h = rw (set_out l u x h) (sets_past l (suc u) xs (omega arith))

-- bytes stored in front of others
pub sets_before : (l : List ℕ) (i j : ℕ) (xs ys : List ℕ) → i + length xs ≤ j → sets (sets l j ys) i xs ≡ sets (sets l i xs) j ys
sets_before l i j [] ys h = refl
sets_before l i j (x ∷ xs) ys h =
    rw (set_before l i j x ys (omega arith)) (sets_before (set l i x) (suc i) j xs ys (omega arith))

-- ---- one after the other

module _ (l : List ℕ) (u : ℕ) where
  pub stored_none : Stored l u [] l u
  stored_none = record { are = refl; free = omega arith }

  pub stored_one : (x : ℕ) {l' : List ℕ} → l' ≡ set l u x → Stored l u (x ∷ []) l' (u + 1)
  stored_one x e = record { are = e; free = omega arith }

  pub stored_as : {xs ys l' : List ℕ} {u' : ℕ} → xs ≡ ys → Stored l u xs l' u' → Stored l u ys l' u'
  stored_as e s = rw e at s

  pub stored_then : (xs : List ℕ) {ys l' l'' : List ℕ} {u' u'' : ℕ} → Stored l u xs l' u' → Stored l' u' ys l'' u'' → Stored l u (xs ++ ys) l'' u''
  stored_then xs {ys} s t =
      record {
        are = t.are ∙ (rw (s.are, s.free) (sets_append l u xs ys));
        free = let a = s.free in let b = t.free in rw (length-append xs ys) (omega arith);
      }

  -- a byte, and what is after it
  pub stored_first : (x : ℕ) {ys l' l'' : List ℕ} {u'' : ℕ} → l' ≡ set l u x → Stored l' (u + 1) ys l'' u'' → Stored l u (x ∷ ys) l'' u''
  stored_first x e t = stored_then (x ∷ []) (stored_one x e) t

  pub stored_length : {xs l' : List ℕ} {u' : ℕ} → Stored l u xs l' u' → length l' ≡ length l
  stored_length {xs} s = rw s.are (length-sets l u xs)

-- ---- loops: what is left to store, from u on, leads to the whole

pub record Toward (l : List ℕ) (u : ℕ) (rest l₀ : List ℕ) (u₀ : ℕ) (all : List ℕ) : Type 0 where
  pub are : sets l u rest ≡ sets l₀ u₀ all
  pub free : u + length rest ≡ u₀ + length all
  pub same : length l ≡ length l₀

pub toward_start : (l : List ℕ) (u : ℕ) (all : List ℕ) → Toward l u all l u all
toward_start l u all = record { are = refl; free = refl; same = refl }

module _ (l : List ℕ) (u : ℕ) (l₀ : List ℕ) (u₀ : ℕ) (all : List ℕ) where
  pub toward_step : (xs rest : List ℕ) {l' : List ℕ} {u' : ℕ} → Toward l u (xs ++ rest) l₀ u₀ all → Stored l u xs l' u' → Toward l' u' rest l₀ u₀ all
  toward_step xs rest t s =
      record {
        are = rw (s.are, s.free) (sets_append l u xs rest ∙ t.are);
        free = let a = s.free in let b = t.free in let c = length-append xs rest in omega arith;
        same = stored_length l u s ∙ t.same;
      }

  pub toward_end : Toward l u [] l₀ u₀ all → Stored l₀ u₀ all l u
  toward_end t = record { are = t.are; free = let a = t.free in omega arith }

pub toward_as : {l : List ℕ} {u : ℕ} {rest ys l₀ : List ℕ} {u₀ : ℕ} {all : List ℕ} → rest ≡ ys → Toward l u rest l₀ u₀ all → Toward l u ys l₀ u₀ all
toward_as e t = rw e at t
