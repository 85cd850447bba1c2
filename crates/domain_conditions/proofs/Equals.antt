-- The ways of reading an equality of objects, and where one is read. Assumes nothing.
use mathlib.Core.Path.{◌≡◌, refl, sym, ◌∙◌}
use mathlib.Core.List.{List, [], ◌∷◌}
use mathlib.Core.Bool.{Bool, true, false, cond}
use Prim.Native.Nat.{ℕ, zero, suc, ◌+◌, ◌<◌}
use native.Mathlib.Omega.{arith}
use lib.ListN.{set}
use lib.Seq.{sets}
use Rattle.text_tokens.specs.Tokens.{token_at}
use Rattle.text_tokens.specs.declared.tokens.Token.{Token}
use Rattle.text_tokens.specs.declared.tokens.Token.TheVariants as T
use Rattle.domain_meaning.specs.Read.{Read, got, refused, and_then}
use Rattle.domain_meaning.specs.Due.{on_word, closing}
use Rattle.domain_meaning.specs.Terms.{Scope, Arg, Given, counts, argument}
use Rattle.domain_meaning.specs.Conditions.{same, comparison, same_objects, equality}
use Rattle.domain_due.specs.Answers.{Parsed}
use Rattle.domain_due.specs.Answers as A
use Rattle.domain_due.proofs.Dues.{done_parts, never_done}
use Rattle.domain_terms.specs.Cells.{cell_of, cell_answer}
use Rattle.domain_terms.proofs.Wanted.{given_refused}
use Rattle.domain_expressions.specs.Codes.{Progress, Refused, Written}
use Rattle.domain_expressions.proofs.Ends.{written_refused}
use Rattle.domain_stored_meaning.specs.Cells.{cond_cells}
use Rattle.domain_conditions.specs.Begins.{comparison_of, objects_due, compared}
use Rattle.domain_conditions.specs.Closed.{closed_by}

pub same_tag : (yes' : Bool) → cond yes' 2 3 < 256
same_tag true = omega arith
same_tag false = omega arith

record Told (x : Read Given) (a v : ℕ) : Type 0 where
  given : Given
  is : x ≡ got given a
  cell : cell_of given.arg ≡ v

told : (x : Read Given) (a v : ℕ) → cell_answer x ≡ A.Done a v → Told x a v
told (got g n) a v e = let q = done_parts n a (cell_of g.arg) v e in record { given = g; is = rw q.0; cell = q.1 }
told (refused k p) a v e = never_done k p a v e

-- ---- an equality of objects

module _ (s : List ℕ) (d : ℕ) (c : Scope) (yes' : Bool) (l at : ℕ) where
  same_read : (a b : Given) (i j : ℕ) → argument s d c at ≡ got a i → argument s d c i ≡ got b j
      → same_objects s d c yes' l at ≡ and_then (closing s d j) (λ _ z. got (counts (same yes' a.arg b.arg) l) z)
  unfolding same_objects
  same_read a b i j e q = rw (e, q)

  same_not : (k p : ℕ) → argument s d c at ≡ refused k p → same_objects s d c yes' l at ≡ refused k p
  unfolding same_objects
  same_not k p e = rw e

  other_not : (a : Given) (i k p : ℕ) → argument s d c at ≡ got a i → argument s d c i ≡ refused k p → same_objects s d c yes' l at ≡ refused k p
  unfolding same_objects
  other_not a i k p e q = rw (e, q)

  same_closed : (code : List ℕ) (u : ℕ) (m : List ℕ) (a b : Arg) (x : Read ℕ) → m ≡ sets code u (cond yes' 2 3 ∷ cell_of a ∷ cell_of b ∷ [])
      → Written cond_cells code u (closed_by (u + 3) l x) m (and_then x (λ _ z. got (counts (same yes' a b) l) z))
  unfolding Written cond_cells
  same_closed code u m a b (got p n) h = (refl, h)
  same_closed code u m a b (refused k p) h = refl

  cells_same : (code : List ℕ) (u x y tag a b t : ℕ) (m : List ℕ) → a ≡ x → b ≡ y → tag ≡ t → m ≡ set (set (set code u tag) (u + 1) x) (u + 2) y
      → m ≡ sets code u (t ∷ a ∷ b ∷ [])
  cells_same code u x y tag a b t m ea eb et h =
      let one : u + 1 ≡ suc u = omega arith in
      let two : u + 2 ≡ suc (suc u) = omega arith in
      rw (ea, eb, ← et) (rw (one, two) at h)

  module _ (code : List ℕ) (u : ℕ) (r₁ : Parsed) (e₁ : r₁ ≡ cell_answer (argument s d c at)) where
    pub same_first : (k p : ℕ) (m : List ℕ) → r₁ ≡ A.Refused k p → Written cond_cells code u (Refused k p) m (same_objects s d c yes' l at)
    same_first k p m e = written_refused cond_cells code u _ m _ k p (same_not k p (given_refused (argument s d c at) k p (sym e₁ ∙ e))) refl

    module _ (i x : ℕ) (h₁ : r₁ ≡ A.Done i x) (r₂ : Parsed) (e₂ : r₂ ≡ cell_answer (argument s d c i)) where
      pub same_second : (k p : ℕ) (m : List ℕ) → r₂ ≡ A.Refused k p → Written cond_cells code u (Refused k p) m (same_objects s d c yes' l at)
      same_second k p m e =
          let g = told (argument s d c at) i x (sym e₁ ∙ h₁) in
          written_refused cond_cells code u _ m _ k p (other_not g.given i k p g.is (given_refused (argument s d c i) k p (sym e₂ ∙ e))) refl

      pub same_done : (j y tag : ℕ) (r : Progress) (m : List ℕ) → r₂ ≡ A.Done j y → tag ≡ cond yes' 2 3 → m ≡ set (set (set code u tag) (u + 1) x) (u + 2) y
          → r ≡ closed_by (u + 3) l (closing s d j) → Written cond_cells code u r m (same_objects s d c yes' l at)
      same_done j y tag r m h₂ et h q =
          let g = told (argument s d c at) i x (sym e₁ ∙ h₁) in
          let o = told (argument s d c i) j y (sym e₂ ∙ h₂) in
          rw (q, same_read g.given o.given i j g.is o.is)
          (same_closed code u m g.given.arg o.given.arg (closing s d j) (cells_same code u x y tag _ _ _ m g.cell o.cell et h))

-- ---- which of the two

is_word : {A : Type 0} (t : Token) (a b : A) → on_word t (λ j p e. true) false ≡ true → on_word t (λ j p e. a) b ≡ a
is_word (T.Word k p e) a b h = refl
is_word (T.Number z p e) a b h = absurd (let z : ◌≡◌ {A = ℕ} 0 1 = cc in let y : ⊥ = omega arith in y)
is_word (T.Open p n) a b h = absurd (let z : ◌≡◌ {A = ℕ} 0 1 = cc in let y : ⊥ = omega arith in y)
is_word (T.Close p n) a b h = absurd (let z : ◌≡◌ {A = ℕ} 0 1 = cc in let y : ⊥ = omega arith in y)
is_word (T.Mark m p n) a b h = absurd (let z : ◌≡◌ {A = ℕ} 0 1 = cc in let y : ⊥ = omega arith in y)
is_word (T.Refusal k p) a b h = absurd (let z : ◌≡◌ {A = ℕ} 0 1 = cc in let y : ⊥ = omega arith in y)
is_word (T.End p) a b h = absurd (let z : ◌≡◌ {A = ℕ} 0 1 = cc in let y : ⊥ = omega arith in y)

no_word : {A : Type 0} (t : Token) (a b : A) → on_word t (λ j p e. true) false ≡ false → on_word t (λ j p e. a) b ≡ b
no_word (T.Word k p e) a b h = absurd (let z : ◌≡◌ {A = ℕ} 0 1 = cc in let y : ⊥ = omega arith in y)
no_word (T.Number z p e) a b h = refl
no_word (T.Open p n) a b h = refl
no_word (T.Close p n) a b h = refl
no_word (T.Mark m p n) a b h = refl
no_word (T.Refusal k p) a b h = refl
no_word (T.End p) a b h = refl

module _ (s : List ℕ) (d : ℕ) (c : Scope) (yes' : Bool) (l at : ℕ) where
  pub compared_objects : (k : ℕ) → objects_due k (token_at s at) ≡ true → compared s d c yes' (comparison_of k) l at ≡ same_objects s d c yes' l at
  unfolding equality
  compared_objects zero h = rw (is_word (token_at s at) (same_objects s d c yes' l) _ h)
  compared_objects (suc k) h = absurd (let z : ◌≡◌ {A = ℕ} 0 1 = cc in let y : ⊥ = omega arith in y)

  pub compared_numbers : (k : ℕ) → objects_due k (token_at s at) ≡ false → compared s d c yes' (comparison_of k) l at ≡ comparison s d c yes' (comparison_of k) l at
  unfolding equality
  compared_numbers zero h = rw (no_word (token_at s at) (same_objects s d c yes' l) _ h)
  compared_numbers (suc zero) h = refl
  compared_numbers (suc (suc zero)) h = refl
  compared_numbers (suc (suc (suc zero))) h = refl
  compared_numbers (suc (suc (suc (suc k)))) h = refl
