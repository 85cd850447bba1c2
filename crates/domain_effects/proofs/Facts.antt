-- What was written of a single effect, and a fact that becomes true or false. Assumes nothing.
use Rattle.std.specs.Prelude.{None, Some, Err}
use mathlib.Core.Path.{◌≡◌, refl, ap}
use mathlib.Core.List.{List, [], ◌∷◌, append-nil}
use mathlib.Core.Bool.{Bool, cond}
use Prim.Native.Nat.{ℕ, zero, suc, ◌+◌, ◌-◌, ◌≤◌, ◌<◌}
use native.Mathlib.Omega.{arith}
use lib.Dec.{eqb}
use Rattle.text_tokens.specs.Runs.{part}
use Rattle.text_tokens.specs.Tokens.{token_at}
use Rattle.text_tokens.specs.declared.tokens.Token.{Token}
use Rattle.text_tokens.specs.declared.tokens.Token.TheVariants as T
use Rattle.domain_meaning.specs.Read.{Read, got, refused, and_then, give, refuse}
use Rattle.domain_meaning.specs.Tables.{lookup, declared}
use Rattle.domain_meaning.specs.Due.{after_of, wrong, on_open, opening}
use Rattle.domain_meaning.specs.Terms.{Scope, Ref, counts, counted, reference}
use Rattle.domain_meaning.specs.Effects.{Effect, becomes, becomes_at}
use Rattle.domain_due.specs.Answers.{answer_of}
use Rattle.domain_due.specs.Answers.{Parsed}
use Rattle.domain_due.specs.Answers as A
use Rattle.domain_due.proofs.Dues.{never_done}
use Rattle.domain_terms.specs.Cells.{Wrote}
use Rattle.domain_expressions.specs.Codes.{ref_cells, Written, Spent}
use Rattle.domain_expressions.proofs.Passed.{passed}
use Rattle.domain_expressions.specs.Codes.{Progress}
use Rattle.domain_expressions.specs.Codes.{Done, Refused}
use Rattle.domain_stored_meaning.specs.Cells.{effect_cells, effects_cells}

-- ---- places

pub spent_from : (r : Progress) (more less n u w at from : ℕ) → from ≤ at → u ≤ w → w + from + more ≤ u + at + less → Spent more n w at r
    → Spent less n u from r
unfolding Spent
spent_from (Done a v l) more less n u w at from i j k h = (omega (arith, h.0), h.1, omega (arith, h.2), omega (arith, h.3))
spent_from (Err why) more less n u w at from i j q h = tt

pub spent_done : (n u at a v l : ℕ) → at < a → a ≤ n → u ≤ v → v + at ≤ u + a → Spent 0 n u at (Done a v l)
unfolding Spent
spent_done n u at a v l i j k h = (i, j, k, omega (arith, h))

-- an opening bracket that was read was not too deep
pub opened : (s : List ℕ) (d at a p : ℕ) → answer_of (opening s d at) ≡ A.Done a p → 1 ≤ d
unfolding opening
opened s zero at a p h = never_open (token_at s at) a p h
  where
    never_open : (t : Token) (b q : ℕ) → answer_of (on_open t (λ o. cond (eqb 0 0) (refuse 12 o) (give o)) (wrong 0 t) (after_of t)) ≡ A.Done b q → 1 ≤ zero
    never_open (T.Word k o e) b q i = never_done _ _ b q i
    never_open (T.Number z o e) b q i = never_done _ _ b q i
    never_open (T.Open o e) b q i = never_done _ _ b q i
    never_open (T.Close o e) b q i = never_done _ _ b q i
    never_open (T.Mark m o e) b q i = never_done _ _ b q i
    never_open (T.Refusal k o) b q i = never_done _ _ b q i
    never_open (T.End o) b q i = never_done _ _ b q i
opened s (suc d) at a p h = omega arith

-- ---- one effect

pub one_cells : (e : Effect) → effects_cells (e ∷ []) ≡ effect_cells e
unfolding effects_cells
one_cells e = append-nil (effect_cells e)

-- ---- a fact

fact_cells : (yes' : Bool) (r : Ref) → effects_cells (becomes yes' r ∷ []) ≡ ref_cells (cond yes' 4 8) r
unfolding effect_cells
fact_cells yes' r = one_cells (becomes yes' r)

fact_written : (yes' : Bool) (code : List ℕ) (u : ℕ) (r : Parsed) (m : List ℕ) (l : ℕ) (x : Read Ref) → Wrote (ref_cells (cond yes' 4 8)) code u r m x
    → Written effects_cells code u (passed l r) m (and_then x (λ a n. got (counts (becomes yes' a ∷ []) l) n))
unfolding Wrote Written
fact_written yes' code u r m l (got a n) h = rw (fact_cells yes' a) (ap (passed l) h.0, h.1)
fact_written yes' code u r m l (refused k p) h = ap (passed l) h

module _ (s : List ℕ) (d : ℕ) (c : Scope) (yes' : Bool) (p e : ℕ) where
  pub fact_missing : (n : ℕ) → lookup c.predicates (part s p e) ≡ None → becomes_at s d c yes' n p e e ≡ refused 8 p
  unfolding becomes_at declared
  fact_missing n q = rw q

  pub fact_many : (n i : ℕ) → lookup c.predicates (part s p e) ≡ Some i → n ≡ 0 → becomes_at s d c yes' n p e e ≡ refused 12 p
  unfolding becomes_at declared counted
  fact_many n i q z = rw (q, z)

  fact_read : (n i : ℕ) → lookup c.predicates (part s p e) ≡ Some i → (n ≡ 0 → ⊥)
      → becomes_at s d c yes' n p e e ≡ and_then (reference s d c c.predicates i e) (λ r a. got (counts (becomes yes' r ∷ []) (n - 1)) a)
  unfolding becomes_at declared counted
  fact_read zero i q z = absurd (z refl)
  fact_read (suc n) i q z = let k : suc n - 1 ≡ n = omega arith in rw (q, k)

  pub fact_stored : (n i tag : ℕ) (code : List ℕ) (u : ℕ) (r : Parsed) (m : List ℕ) → tag ≡ cond yes' 4 8
      → lookup c.predicates (part s p e) ≡ Some i → (n ≡ 0 → ⊥)
      → Wrote (ref_cells tag) code u r m (reference s d c c.predicates i e) → Written effects_cells code u (passed (n - 1) r) m (becomes_at s d c yes' n p e e)
  fact_stored n i tag code u r m t q z h = rw (fact_read n i q z) (fact_written yes' code u r m (n - 1) (reference s d c c.predicates i e) (rw t at h))
