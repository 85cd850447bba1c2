-- The ways of reading a fact, and the closing bracket of a condition. Assumes nothing.
use Rattle.std.specs.Prelude.{None, Some}
use mathlib.Core.Path.{◌≡◌, refl, sym, ap, ◌∙◌}
use mathlib.Core.List.{List}
use mathlib.Core.Bool.{Bool, true, false, cond}
use Prim.Native.Nat.{ℕ, zero, suc, ◌-◌, ◌≤◌}
use native.Mathlib.Omega.{arith}
use Rattle.text_tokens.specs.Runs.{part}
use Rattle.domain_meaning.specs.Read.{Read, got, refused, and_then}
use Rattle.domain_meaning.specs.Tables.{lookup, declared}
use Rattle.domain_meaning.specs.Terms.{Scope, Ref, counts, counted, reference}
use Rattle.domain_meaning.specs.Conditions.{atom, atom_at}
use Rattle.domain_due.specs.Answers.{Parsed, answer_of}
use Rattle.domain_due.specs.Answers as A
use Rattle.domain_due.proofs.Dues.{answer_done, answer_refused}
use Rattle.domain_terms.specs.Cells.{Wrote}
use Rattle.domain_expressions.specs.Codes.{Done, Refused, ref_cells, Written}
use Rattle.domain_expressions.proofs.Passed.{passed}
use Rattle.domain_stored_meaning.specs.Cells.{cond_cells}
use Rattle.domain_conditions.specs.Closed.{closed_by}

-- ---- the closing bracket

module _ (x : Read ℕ) (a : Parsed) (e : a ≡ answer_of x) (free left : ℕ) where
  pub closed_done : (n p : ℕ) → a ≡ A.Done n p → Done n free left ≡ closed_by free left x
  closed_done n p q = rw (answer_done x n p (sym e ∙ q))

  pub closed_refused : (k p : ℕ) → a ≡ A.Refused k p → Refused k p ≡ closed_by free left x
  closed_refused k p q = rw (answer_refused x k p (sym e ∙ q))

-- ---- a fact

pub fact_tag : (yes' : Bool) → cond yes' 4 8 ≤ 251
fact_tag true = omega arith
fact_tag false = omega arith

module _ (s : List ℕ) (d : ℕ) (c : Scope) (yes' : Bool) (p e : ℕ) where
  pub fact_missing : (n : ℕ) → lookup c.predicates (part s p e) ≡ None → atom_at s d c yes' n p e e ≡ refused 8 p
  unfolding atom_at declared
  fact_missing n q = rw q

  pub fact_many : (n i : ℕ) → lookup c.predicates (part s p e) ≡ Some i → n ≡ 0 → atom_at s d c yes' n p e e ≡ refused 12 p
  unfolding atom_at declared counted
  fact_many n i q z = rw (q, z)

  fact_read : (n i : ℕ) → lookup c.predicates (part s p e) ≡ Some i → (n ≡ 0 → ⊥)
      → atom_at s d c yes' n p e e ≡ and_then (reference s d c c.predicates i e) (λ r a. got (counts (atom yes' r) (n - 1)) a)
  unfolding atom_at declared counted
  fact_read zero i q z = absurd (z refl)
  fact_read (suc n) i q z = let k : suc n - 1 ≡ n = omega arith in rw (q, k)

  referred : (code : List ℕ) (u : ℕ) (r : Parsed) (m : List ℕ) (l : ℕ) (x : Read Ref) → Wrote (ref_cells (cond yes' 4 8)) code u r m x
      → Written cond_cells code u (passed l r) m (and_then x (λ a n. got (counts (atom yes' a) l) n))
  unfolding Wrote Written cond_cells
  referred code u r m l (got a n) h = (ap (passed l) h.0, h.1)
  referred code u r m l (refused k q) h = ap (passed l) h

  pub fact_written : (n i : ℕ) (code : List ℕ) (u : ℕ) (r : Parsed) (m : List ℕ) → lookup c.predicates (part s p e) ≡ Some i → (n ≡ 0 → ⊥)
      → Wrote (ref_cells (cond yes' 4 8)) code u r m (reference s d c c.predicates i e)
      → Written cond_cells code u (passed (n - 1) r) m (atom_at s d c yes' n p e e)
  fact_written n i code u r m q z h = rw (fact_read n i q z) (referred code u r m (n - 1) (reference s d c c.predicates i e) h)
