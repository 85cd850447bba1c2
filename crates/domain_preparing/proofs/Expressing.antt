-- Expressions copied: the bytes of a whole are those of its first cell and of its parts. Assumes nothing.
use mathlib.Core.Path.{◌≡◌}
use mathlib.Core.List.{List, ◌∷◌, ◌++◌}
use Prim.Native.Nat.{ℕ, ◌+◌, ◌-◌, ◌≤◌, ◌<◌}
use native.Mathlib.Omega.{arith}
use native.Mathlib.Decide.{ℕ_discrete}
use lib.IntN.{ℤ, pos}
use lib.ListN.{length, set}
use Rattle.domain_meaning.specs.Terms.{Ref, Expr, number, value}
use Rattle.domain_literals.specs.Literal.{sign_base, size_of, bytes_of, number_cells}
use Rattle.domain_rows.specs.Held.{byte_at}
use Rattle.domain_stored_meaning.specs.Decode.{Decoded, decoded, no_expr, expr_at}
use Rattle.domain_prepared_meaning.specs.Rows.{form_bytes, expr_bytes}
use Rattle.domain_forms.specs.Stored.{Stored}
use Rattle.domain_preparing.specs.Written.{Copies}
use Rattle.domain_forms.proofs.Storing.{stored_one, stored_first, stored_then}
use Rattle.domain_preparing.proofs.Shapes.{expr_minus, expr_less, expr_plus}

pub zero_stored : (l : List ℕ) (u : ℕ) {l' : List ℕ} → l' ≡ set l u 32 → Stored l u (number_cells (pos 0)) l' (u + 1)
unfolding number_cells sign_base size_of bytes_of
zero_stored l u e = stored_one l u 32 e

-- what is read is another's
pub copies_as : {A : Type 0} {b : A → List ℕ} {l : List ℕ} {u : ℕ} {d e : Decoded A} {l' : List ℕ} {n f : ℕ} → d ≡ e
    → Copies b l u e l' n f → Copies b l u d l' n f
copies_as e c = rw e c

module _ (m : ℕ) (ps fs l : List ℕ) (u : ℕ) {d : Decoded Expr} {l' : List ℕ} {next free : ℕ} where
  pub copies_zero : {n : ℕ} → d ≡ no_expr n → Stored l u (number_cells (pos 0)) l' free → next ≡ n → Copies (expr_bytes m ps fs) l u d l' next free
  unfolding expr_bytes
  copies_zero e s n = rw e (record { stored = s; ends = n })

  pub copies_value : {r : Ref} {n : ℕ} → d ≡ decoded (value r) n → Stored l u (form_bytes m ps fs 5 fs r) l' free → next ≡ n
      → Copies (expr_bytes m ps fs) l u d l' next free
  unfolding expr_bytes
  copies_value e s n = rw e (record { stored = s; ends = n })

  pub copies_number : {z : ℤ} {n : ℕ} → d ≡ decoded (number z) n → Stored l u (number_cells z) l' free → next ≡ n
      → Copies (expr_bytes m ps fs) l u d l' next free
  unfolding expr_bytes
  copies_number e s n = rw e (record { stored = s; ends = n })

-- ---- with parts

module _ (m : ℕ) (ps fs code : List ℕ) (at d : ℕ) {tag : ℕ} (n : d ≡ 0 → ⊥) (h : at < length code) (g : tag ≡ byte_at code at) where
  abbrev whole : List ℕ → ℕ → List ℕ → ℕ → ℕ → Type 0
  whole l u l' next free = Copies (expr_bytes m ps fs) l u (expr_at d code at) l' next free

  module _ (l : List ℕ) (u : ℕ) {l₁ l₂ : List ℕ} {p f : ℕ} (e₁ : l₁ ≡ set l u tag)
      (a : Copies (expr_bytes m ps fs) l₁ (u + 1) (expr_at (d - 1) code (at + 1)) l₂ p f) where
    pub copies_minus : tag ≡ 0 → whole l u l₂ p f
    unfolding expr_bytes
    copies_minus z = rw (expr_minus code at d n h g z) (record { stored = stored_first l u 0 (rw z at e₁) a.stored; ends = a.ends })

    two_stored : {l₃ : List ℕ} {q r : ℕ} → Copies (expr_bytes m ps fs) l₂ f (expr_at (d - 1) code p) l₃ q r
        → Stored l u (tag ∷ (expr_bytes m ps fs (expr_at (d - 1) code (at + 1)).tree ++ expr_bytes m ps fs (expr_at (d - 1) code p).tree)) l₃ r
    two_stored b = stored_first l u tag e₁ (stored_then l₁ (u + 1) _ a.stored b.stored)

    pub copies_two : (tag ≡ 0 → ⊥) → tag ≤ 2 → {l₃ : List ℕ} {q r : ℕ} → Copies (expr_bytes m ps fs) l₂ f (expr_at (d - 1) code p) l₃ q r → whole l u l₃ q r
    unfolding expr_bytes
    copies_two z k b = elim (ℕ_discrete tag 1) [
      | yes w ↦ rw (expr_less code at d n h g w)
          (record { stored = rw (← a.ends) (rw w at (two_stored b)); ends = rw (← a.ends) b.ends })
      | no w ↦ let v : tag ≡ 2 = omega arith in rw (expr_plus code at d n h g v)
          (record { stored = rw (← a.ends) (rw v at (two_stored b)); ends = rw (← a.ends) b.ends })
    ]
