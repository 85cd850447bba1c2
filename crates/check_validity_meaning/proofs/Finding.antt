-- A test that finds whether something is so. Assumes nothing.
use mathlib.Core.Bool.{Bool, true, false, ◌&&◌, ◌||◌, true≢false, false≢true}
use mathlib.Core.Logic.{◌⊎◌, inl, inr}
use mathlib.Core.Path.{◌≡◌, refl, sym, ◌∙◌}
use Prim.Native.Nat.{ℕ, ◌≤◌, ◌<◌}
use lib.Dec.{eqb, leb, ltb}
use borrow.Author.Tests.{eqb-true, eq-eqb, leb-true, le-leb, ltb-true, lt-ltb}

pub record Finds (P : Type 0) (b : Bool) : Type 0 where
  pub found : b ≡ true → P
  pub so : P → b ≡ true

pub absent : {P : Type 0} {b : Bool} → Finds P b → b ≡ false → ¬ P
absent f e p = true≢false (sym (f.so p) ∙ e)

pub unfound : {P : Type 0} {b : Bool} → Finds P b → ¬ P → b ≡ false
unfound {P} {b} f n = go b f.found
  where
    go : (c : Bool) → (c ≡ true → P) → c ≡ false
    go true h = absurd (n (h refl))
    go false h = refl

pub finds_so : {P Q : Type 0} {b : Bool} → (P → Q) → (Q → P) → Finds P b → Finds Q b
finds_so a c f = record { found = λ e. a (f.found e); so = λ q. f.so (c q) }

pub nothing : Finds ⊥ false
nothing = record { found = λ e. false≢true e; so = λ p. absurd p }

pub equal : (m n : ℕ) → Finds (m ≡ n) (eqb m n)
equal m n = record { found = eqb-true m n; so = eq-eqb m n }

pub either : {P Q : Type 0} {a b : Bool} → Finds P a → Finds Q b → Finds (P ⊎ Q) (a || b)
either {P} {Q} {a} {b} f h = go a f.found f.so
  where
    go : (c : Bool) → (c ≡ true → P) → (P → c ≡ true) → Finds (P ⊎ Q) (c || b)
    go true k l = record { found = λ e. inl (k refl); so = λ x. refl }
    go false k l = record { found = λ e. inr (h.found e); so = elim [ inl p ↦ absurd (false≢true (l p)) | inr q ↦ h.so q ] }

pub at_most : (m n : ℕ) → Finds (m ≤ n) (leb m n)
at_most m n = record { found = leb-true m n; so = le-leb m n }

pub below : (m n : ℕ) → Finds (m < n) (ltb m n)
below m n = record { found = ltb-true m n; so = lt-ltb m n }

pub both : {P Q : Type 0} {a b : Bool} → Finds P a → Finds Q b → Finds (P × Q) (a && b)
both {P} {Q} {a} {b} f h = go a f.found f.so
  where
    go : (c : Bool) → (c ≡ true → P) → (P → c ≡ true) → Finds (P × Q) (c && b)
    go true k l = record { found = λ e. (k refl, h.found e); so = λ x. h.so x.1 }
    go false k l = record { found = λ e. absurd (false≢true e); so = λ x. l x.0 }
