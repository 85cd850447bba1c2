-- A reference has as many arguments as its head wants, and its cells are those of its parts. Assumes nothing.
use mathlib.Core.Path.{◌≡◌, refl, ap}
use mathlib.Core.List.{List, [], ◌∷◌}
use Prim.Native.Nat.{ℕ, suc, ◌+◌}
use native.Mathlib.Omega.{arith}
use lib.ListN.{length, set}
use Rattle.text_tokens.specs.Tokens.{token_at}
use Rattle.text_tokens.specs.declared.tokens.Token.{Token}
use Rattle.text_tokens.specs.declared.tokens.Token.TheVariants as T
use Rattle.domain_meaning.specs.Read.{Read, Reader, got, refused, and_then, give}
use Rattle.domain_meaning.specs.Tables.{Table, entry_at, wanted_of}
use Rattle.domain_meaning.specs.Due.{on_close, closing}
use Rattle.domain_meaning.specs.Terms.{Scope, Arg, argument, fits, arguments, reference}
use Rattle.domain_due.specs.Answers.{Parsed}
use Rattle.domain_terms.specs.Cells.{arg_cells, Wrote}
use Rattle.domain_expressions.specs.Codes.{ref_cells}

-- k arguments, if any were read
unfoldable Many : ℕ → Read (List Arg) → Type 0
Many k (got as' n) = length as' ≡ k
Many k (refused j p) = Unit {0}

many_then : {A : Type 0} (k : ℕ) (x : Read A) (f : A → Reader (List Arg)) → ((a : A) (n : ℕ) → Many k (f a n)) → Many k (and_then x f)
unfolding Many
many_then k (got a n) f h = h a n
many_then k (refused j p) f h = tt

many_close : (k at : ℕ) (t : Token) (f : ℕ → Reader (List Arg)) (g : Reader (List Arg)) → ((p : ℕ) → Many k (f p at)) → Many k (g at)
    → Many k (on_close t f g at)
many_close k at (T.Word w p e) f g h j = j
many_close k at (T.Number z p e) f g h j = j
many_close k at (T.Open p n) f g h j = j
many_close k at (T.Close p n) f g h j = h p
many_close k at (T.Mark m p n) f g h j = j
many_close k at (T.Refusal m p) f g h j = j
many_close k at (T.End p) f g h j = j

many_more : (k : ℕ) (a : Arg) (x : Read (List Arg)) → Many k x → Many (suc k) (and_then x (λ as'. give (a ∷ as')))
unfolding Many
many_more k a (got as' n) h = ap suc h
many_more k a (refused j p) h = tt

many : (s : List ℕ) (d : ℕ) (c : Scope) (ws : List ℕ) (at : ℕ) → Many (length ws) (arguments s d c ws at)
unfolding arguments Many
many s d c [] at =
    many_close 0 at (token_at s at) _ _ (λ p. many_then 0 (closing s d at) _ (λ a n. refl)) (many_then 0 (argument s d c at) _ (λ g n. tt))
many s d c (w ∷ ws) at =
    many_close (suc (length ws)) at (token_at s at) _ _ (λ p. tt)
    (many_then (suc (length ws)) (argument s d c at) _ (λ g n. many_then (suc (length ws)) (fits c w g n) _
    (λ a m. many_more (length ws) a (arguments s d c ws m) (many s d c ws m))))

module _ (code : List ℕ) (u tag i arity : ℕ) (r : Parsed) (m : List ℕ) where
  referred : (x : Read (List Arg)) → Many arity x → Wrote arg_cells (set (set code u (tag + arity)) (u + 1) i) (u + 2) r m x
      → Wrote (ref_cells tag) code u r m (and_then x (λ as'. give (record { head = i; args = as' })))
  unfolding Wrote Many
  referred (got as' n) k h =
      let e : u + 2 + length (arg_cells as') ≡ u + suc (suc (length (arg_cells as'))) = omega arith in
      let one : u + 1 ≡ suc u = omega arith in
      let two : u + 2 ≡ suc (suc u) = omega arith in
      (rw e at h.0, rw (← k, one, two) at h.1)
  referred (refused j p) k h = h

  pub reference_wrote : (s : List ℕ) (d : ℕ) (c : Scope) (t : Table) (at : ℕ) → arity ≡ length (wanted_of (entry_at t i))
      → Wrote arg_cells (set (set code u (tag + arity)) (u + 1) i) (u + 2) r m (arguments s d c (wanted_of (entry_at t i)) at)
      → Wrote (ref_cells tag) code u r m (reference s d c t i at)
  unfolding reference
  reference_wrote s d c t at e h = referred (arguments s d c (wanted_of (entry_at t i)) at) (rw e (many s d c (wanted_of (entry_at t i)) at)) h
