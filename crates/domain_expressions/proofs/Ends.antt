-- The ways of reading a function's value, and the ends of operands. Assumes nothing.
use Rattle.std.specs.Prelude.{None, Some, Err}
use mathlib.Core.Path.{◌≡◌, refl, sym, ap, ◌∙◌}
use mathlib.Core.List.{List, [], ◌∷◌}
use mathlib.Core.Bool.{Bool, cond}
use Prim.Native.Nat.{ℕ, zero, suc, ◌-◌, ◌≤◌, ◌<◌}
use native.Mathlib.Omega.{arith}
use lib.IntN.{ℤ}
use lib.ListN.{length, set}
use types.Run.{OneOf}
use denote.Enum.Declared.{tag_of}
use borrow.Author.Tests.{eq-eqb, ne_eqb}
use Rattle.text_tokens.specs.Runs.{part}
use Rattle.text_tokens.specs.Tokens.{token_at}
use Rattle.text_tokens.specs.declared.tokens.Token.{Token}
use Rattle.text_tokens.specs.declared.tokens.Token.TheVariants as T
use Rattle.text_tokens.specs.contracts.tokens.Token as token-type
use Rattle.domain_meaning.specs.Read.{Read, got, refused, and_then}
use Rattle.domain_meaning.specs.Tables.{lookup, declared}
use Rattle.domain_meaning.specs.Due.{number_of, place_of}
use Rattle.domain_meaning.specs.Terms.{Scope, Ref, value, Counted, counts, counted, reference, operands_end, function_at}
use Rattle.domain_due.specs.Answers.{Parsed, answer_of, Ahead}
use Rattle.domain_due.specs.Answers as A
use Rattle.domain_due.proofs.Dues.{not_close, not_number, ahead_refused, ahead_by, answer_done, answer_refused, close_in}
use Rattle.domain_terms.specs.Cells.{Wrote, Room}
use Rattle.domain_expressions.specs.Codes.{Progress, Done, Refused, ref_cells, cells_of, Written, Spent, Joined}
use Rattle.domain_expressions.proofs.Passed.{passed}

-- ---- what was written

pub written_refused : {A : Type 0} (cells : A → List ℕ) (code : List ℕ) (u : ℕ) (r : Progress) (m : List ℕ) (x : Read (Counted A)) (k p : ℕ)
    → x ≡ refused k p → r ≡ Refused k p → Written cells code u r m x
unfolding Written
written_refused cells code u r m x k p e q = rw e q

pub spent_refused : (more n u at : ℕ) (r : Progress) (k p : ℕ) → r ≡ Refused k p → Spent more n u at r
unfolding Spent
spent_refused more n u at r k p e = rw e tt

written_value : (code : List ℕ) (u : ℕ) (r : Parsed) (m : List ℕ) (l : ℕ) (x : Read Ref) → Wrote (ref_cells 5) code u r m x
    → Written cells_of code u (passed l r) m (and_then x (λ a n. got (counts (value a) l) n))
unfolding Wrote Written cells_of
written_value code u r m l (got a n) h = (ap (passed l) h.0, h.1)
written_value code u r m l (refused k p) h = ap (passed l) h

pub spent_passed : (r : Parsed) (n u at l : ℕ) → Ahead n at r → Room u at r → Spent 0 n u at (passed l r)
unfolding Ahead Room Spent
spent_passed (A.Done a v) n u at l h k = (h.0, h.1, k.0, omega (arith, k.1))
spent_passed (Err why) n u at l h k = tt

-- ---- a function

module _ (s : List ℕ) (d : ℕ) (c : Scope) (p e : ℕ) where
  pub function_missing : (n : ℕ) → lookup c.functions (part s p e) ≡ None → function_at s d c n p e e ≡ refused 8 p
  unfolding declared
  function_missing n q = rw q

  pub function_many : (n i : ℕ) → lookup c.functions (part s p e) ≡ Some i → n ≡ 0 → function_at s d c n p e e ≡ refused 12 p
  unfolding declared counted
  function_many n i q z = rw (q, z)

  function_read : (n i : ℕ) → lookup c.functions (part s p e) ≡ Some i → (n ≡ 0 → ⊥)
      → function_at s d c n p e e ≡ and_then (reference s d c c.functions i e) (λ r a. got (counts (value r) (n - 1)) a)
  unfolding declared counted
  function_read zero i q z = absurd (z refl)
  function_read (suc n) i q z = let k : suc n - 1 ≡ n = omega arith in rw (q, k)

  pub function_written : (n i : ℕ) (code : List ℕ) (u : ℕ) (r : Parsed) (m : List ℕ) → lookup c.functions (part s p e) ≡ Some i → (n ≡ 0 → ⊥)
      → Wrote (ref_cells 5) code u r m (reference s d c c.functions i e) → Written cells_of code u (passed (n - 1) r) m (function_at s d c n p e e)
  function_written n i code u r m q z h = rw (function_read n i q z) (written_value code u r m (n - 1) (reference s d c c.functions i e) h)

-- ---- the ends of operands

module _ (s : List ℕ) (d n at : ℕ) where
  pub end_close : (p a : ℕ) → at ≤ length s → token_at s at ≡ T.Close p a → (A.Done a p ≡ answer_of (operands_end s d n at)) × Ahead (length s) at (A.Done a p)
  unfolding operands_end
  end_close p a h e = let w = close_in s at h p a e in (rw e, ahead_by _ _ _ _ w.0 w.1)

  pub end_many : (z : ℤ) (p e : ℕ) → token_at s at ≡ T.Number z p e → n ≡ 0 → (A.Refused 12 p ≡ answer_of (operands_end s d n at))
      × Ahead (length s) at (A.Refused 12 p)
  unfolding operands_end
  end_many z p e q k = (rw (q, eq-eqb n 0 k), ahead_refused _ _ 12 p _ refl)

  pub end_number : (z : ℤ) (p e : ℕ) → token_at s at ≡ T.Number z p e → (n ≡ 0 → ⊥) → (A.Refused 3 p ≡ answer_of (operands_end s d n at))
      × Ahead (length s) at (A.Refused 3 p)
  unfolding operands_end
  end_number z p e q k = (rw (q, ne_eqb n 0 k), ahead_refused _ _ 3 p _ refl)

  pub end_else : (t : Token) (r : Parsed) → t ≡ token_at s at → OneOf (0 ∷ 1 ∷ 2 ∷ 4 ∷ 5 ∷ 6 ∷ []) (tag_of token-type.the_type t)
      → OneOf (0 ∷ 2 ∷ 3 ∷ 4 ∷ 5 ∷ 6 ∷ []) (tag_of token-type.the_type t) → r ≡ A.Refused (number_of d t) (place_of t)
      → (r ≡ answer_of (operands_end s d n at)) × Ahead (length s) at r
  unfolding operands_end
  end_else t r e o k q = (rw (← e, not_close t _ _ o, not_number t _ _ k) q, ahead_refused _ _ _ _ r q)

module _ (code : List ℕ) (u free left : ℕ) (minus : Bool) (a : Parsed) (x : Read ℕ) (e : a ≡ answer_of x) where
  pub joined_refused : (k p : ℕ) (m : List ℕ) → a ≡ A.Refused k p → Joined code u free left minus (Refused k p) m x
  unfolding Joined
  joined_refused k p m q = rw (answer_refused x k p (sym e ∙ q)) refl

  pub joined_done : (n p cell : ℕ) (m : List ℕ) → a ≡ A.Done n p → cell ≡ cond minus 1 2 → m ≡ set code u cell
      → Joined code u free left minus (Done n free left) m x
  unfolding Joined
  joined_done n p cell m q h k = rw (answer_done x n p (sym e ∙ q)) (refl, rw h at k)

pub spent_free : (n free at a l : ℕ) → at < a → a ≤ n → Spent 0 n free at (Done a free l)
unfolding Spent
spent_free n free at a l lo hi = (lo, hi, omega arith, omega arith)
