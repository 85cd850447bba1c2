-- Arguments, references and expressions that are read: their names are declared, a reference has a byte for each argument and a bracket after them, the size
-- of an expression is at most one more than bytes were read, and its operators and operands are counted. Assumes nothing.
use Rattle.std.specs.Prelude.{None, Option, Some}
use mathlib.Core.Path.{◌≡◌, refl}
use mathlib.Core.List.{List, [], ◌∷◌}
use Prim.Native.Nat.{ℕ, zero, suc, ◌+◌, ◌≤◌, ◌<◌}
use native.Mathlib.Omega.{arith}
use lib.Dec.{eqb}
use lib.ListN.{length}
use Rattle.text_words.specs.Fixed.{head_of}
use Rattle.text_words.specs.declared.fixed.HeadWord.{HeadWord}
use Rattle.text_words.specs.declared.fixed.HeadWord.TheVariants as H
use Rattle.text_tokens.specs.Runs.{part}
use Rattle.text_tokens.specs.Tokens.{token_at}
use Rattle.text_tokens.specs.declared.tokens.Word.{Word}
use Rattle.text_tokens.specs.declared.tokens.Word.TheVariants as W
use Rattle.domain_meaning.specs.Read.{Reader, give, refuse, and_then}
use Rattle.domain_meaning.specs.Tables.{Table, entry_at, wanted_of, lookup, on_found, declared, is_below}
use Rattle.domain_meaning.specs.Due.{after_of}
use Rattle.domain_meaning.specs.Terms.{Scope, Expr, Given, given_by, argument, arguments, reference, Counted, counted, leaf}
use Rattle.domain_meaning.specs.Terms.{operands_end, plus_of, minus_of, operation, headed, expr, expression}
use Rattle.domain_meaning.specs.Terms as G
use Rattle.domain_meaning.proofs.Given as R
use Rattle.domain_meaning.proofs.Given.{Any, Fits, Ahead, fits, stops, fits_also, given_then, word_gives, number_gives, open_gives, close_gives, close_ahead}
use Rattle.domain_meaning.proofs.Given.{either_gives}
use Rattle.domain_meaning.proofs.Steps.{closing_fits}
use Rattle.domain_terms.proofs.Kept.{found_below}
use Rattle.domain_expressions.proofs.Sizes.{numeral_fits}
use Rattle.domain_read_laws.proofs.Sizes.{expr_size}
use Rattle.domain_read_laws.proofs.Widths.{expr_count, expr_width_lem, expr_narrow}
use Rattle.domain_read_laws.proofs.Named.{NamedArg, NamedArgs, NamedRef, NamedExpr, expr_deeper}

-- ---- names

pub declared_fits : (t : Table) (p : ℕ) (w : List ℕ) (at : ℕ) → Fits (λ i. i < length t) (λ _. 0) at 0 (declared t p w at)
unfolding declared
declared_fits t p w at = go (lookup t w) refl
  where
    go : (f : Option ℕ) → lookup t w ≡ f → Fits (λ i. i < length t) (λ _. 0) at 0 (on_found f (λ i. give i) (refuse 8 p) at)
    go (Some i) e = fits {n = at} (found_below t w i e) (omega arith) (omega arith)
    go None e = stops

-- ---- arguments

module _ (s : List ℕ) (c : Scope) where
  abbrev NamedList : List ℕ → List G.Arg → Type 0
  NamedList ws xs = (length xs ≡ length ws) × NamedArgs c xs

  given_fits : (k : Word) (p e at : ℕ) → Fits (λ (g : Given). NamedArg c g.arg) (λ _. 0) at 0 (given_by s c k p e at)
  unfolding NamedArg
  given_fits W.Name p e at =
      given_then _ (declared_fits c.objects p (part s p e) at) (λ i n h. fits h.good (omega arith) (omega arith))
  given_fits W.Variable p e at =
      either_gives c.in_action _ _ at (given_then _ (declared_fits c.variables p (part s (p + 1) e) at)
      (λ i n h. fits h.good (omega arith) (omega arith))) stops
  given_fits W.Keyword p e at = stops
  given_fits W.Operator p e at = stops

  pub argument_fits : (d at : ℕ) → Fits (λ (g : Given). NamedArg c g.arg) (λ _. 1) at 0 (argument s d c at)
  unfolding argument
  argument_fits d at = word_gives s at _ _ (λ k p e l h i y. fits_also (given_fits k p e e) (omega arith) (λ a n j. omega arith)) stops

  typed_fits : (want : ℕ) (g : Given) (at : ℕ) → NamedArg c g.arg → Fits (NamedArg c) (λ _. 0) at 0 (G.fits c want g at)
  unfolding G.fits
  typed_fits want g at h = either_gives (is_below (length c.types) c.types g.type want) _ _ at (fits h (omega arith) (omega arith)) stops

  arguments_fits : (d : ℕ) (ws : List ℕ) (at : ℕ) → Fits (NamedList ws) (λ xs. length xs + 1) at 0 (arguments s d c ws at)
  unfolding arguments NamedArgs
  arguments_fits d [] at =
      close_ahead (token_at s at) _ _ at (λ p. given_then _ (closing_fits s d at) (λ q n h. fits (omega arith, tt) (omega arith) (omega arith)))
      (given_then _ (argument_fits d at) (λ g n h. stops))
  arguments_fits d (w ∷ ws) at =
      close_ahead (token_at s at) _ _ at (λ p. stops)
      (given_then _ (argument_fits d at)
      (λ g n h. given_then _ (typed_fits w g n h.good)
      (λ a i l. given_then _ (arguments_fits d ws i) (λ xs m u. fits (omega (arith, u.good.0), (l.good, u.good.1)) (omega arith) (omega arith)))))

  pub reference_fits : (d : ℕ) (t : Table) (i at : ℕ) → i < length t → Fits (NamedRef c t) (λ r. length r.args + 1) at 0 (reference s d c t i at)
  unfolding reference
  reference_fits d t i at l =
      given_then _ (arguments_fits d (wanted_of (entry_at t i)) at)
      (λ xs n h. fits (record { head = l; count = h.good.0; args = h.good.1 }) (omega arith) (omega arith))

-- ---- counting: of n one fewer is left

pub counted_then : {B : Type 0} {P : B → ℕ → Type 0} (p n at : ℕ) (f : ℕ → Reader B) → ((m : ℕ) → n ≡ suc m → R.Given P Any (f m at))
    → R.Given P Any (and_then (counted p n at) f)
unfolding counted
counted_then p zero at f h = stops
counted_then p (suc n) at f h = h n refl

-- ---- expressions

abbrev size_of : Counted Expr → ℕ
size_of x = expr_size x.tree

-- of n operators and operands some are left
record CountedExpr (c : Scope) (d n : ℕ) (x : Counted Expr) : Type 0 where
  named : NamedExpr c d x.tree
  count : expr_count x.tree + x.left ≤ n

leaf_fits : (s : List ℕ) (c : Scope) (d n at e : ℕ) → Fits (CountedExpr c (suc e) n) size_of at 1 (leaf d n (token_at s at) (after_of (token_at s at)))
unfolding expr_size expr_count NamedExpr
leaf_fits s c d n at e =
    number_gives s at _ _
    (λ z p i q. let w = numeral_fits s at z p i q in
    counted_then p n i _ (λ m l. fits (record { named = w.3; count = omega arith }) (omega (arith, w.0)) (omega (arith, w.2))))
    stops

end_fits : (s : List ℕ) (d n at : ℕ) → Ahead 1 at (operands_end s d n at)
unfolding operands_end
end_fits s d n at =
    close_gives s at _ _ (λ p e h i. fits tt (omega arith) (omega arith)) (number_gives s at _ _ (λ z p e q. either_gives (eqb n 0) _ _ e stops stops) stops)

-- f reads an operand of e levels; after the bracket and the head word two bytes are read already
module _ (s : List ℕ) (c : Scope) (d e : ℕ) (f : ℕ → Reader (Counted Expr)) (r : (n at : ℕ) → Fits (CountedExpr c e n) size_of at 1 (f n at)) where
  plus_fits : (n at : ℕ) → Fits (CountedExpr c (suc e) (suc n)) size_of at 2 (plus_of s d f n at)
  unfolding expr_size expr_count NamedExpr
  plus_fits n at =
      given_then _ (r n at)
      (λ a i h. given_then _ (r a.left i)
      (λ b j l. given_then _ (end_fits s d b.left j) (λ q k u. fits
      (record { named = (h.good.named, l.good.named); count = omega arith }) (omega arith) (omega arith))))

  minus_fits : (n at : ℕ) → Fits (CountedExpr c (suc e) (suc n)) size_of at 2 (minus_of s d f n at)
  unfolding expr_size expr_count NamedExpr
  minus_fits n at =
      given_then _ (r n at)
      (λ a i h. close_ahead (token_at s i) _ _ i
      (λ p. given_then _ (closing_fits s d i) (λ q k u. fits (record { named = h.good.named; count = omega arith }) (omega arith) (omega arith)))
      (given_then _ (r a.left i)
      (λ b j l. given_then _ (end_fits s d b.left j) (λ q k u. fits
      (record { named = (h.good.named, l.good.named); count = omega arith }) (omega arith) (omega arith)))))

  operation_fits : (n : ℕ) (w : HeadWord) (p at : ℕ) → Fits (CountedExpr c (suc e) n) size_of at 2 (operation s d f n w p at)
  operation_fits n H.Plus p at = counted_then p n at _ (λ m l. rw l (plus_fits m at))
  operation_fits n H.Minus p at = counted_then p n at _ (λ m l. rw l (minus_fits m at))
  operation_fits n H.And p at = stops
  operation_fits n H.Not p at = stops
  operation_fits n H.Equal p at = stops
  operation_fits n H.Less p at = stops
  operation_fits n H.AtMost p at = stops
  operation_fits n H.More p at = stops
  operation_fits n H.AtLeast p at = stops
  operation_fits n H.Assign p at = stops
  operation_fits n H.Increase p at = stops
  operation_fits n H.Decrease p at = stops
  operation_fits n H.Other p at = stops

  headed_fits : (n : ℕ) (k : Word) (p i at : ℕ) → Fits (CountedExpr c (suc e) n) size_of at 2 (headed s d c f n k p i at)
  unfolding expr_size expr_count NamedExpr
  headed_fits n W.Name p i at =
      given_then _ (declared_fits c.functions p (part s p i) at)
      (λ j a h. counted_then p n a _
      (λ m l. given_then _ (reference_fits s c d c.functions j a h.good)
      (λ x o v. fits (record { named = v.good; count = omega arith }) (omega arith) (omega arith))))
  headed_fits n W.Variable p i at = stops
  headed_fits n W.Keyword p i at = stops
  headed_fits n W.Operator p i at = operation_fits n (head_of (part s p i)) p at

-- an expression of its own
pub record NarrowExpr (c : Scope) (x : Expr) : Type 0 where
  pub named : NamedExpr c 16 x
  pub narrow : expr_width_lem x ≤ 56

module _ (s : List ℕ) (c : Scope) where
  -- where d levels of brackets are left
  expr_fits : (d n at : ℕ) → Fits (CountedExpr c (suc d) n) size_of at 1 (expr d s c n at)
  unfolding expr
  expr_fits zero n at = leaf_fits s c zero n at zero
  expr_fits (suc d) n at =
      open_gives s at _ _
      (λ p e h o. word_gives s e _ _
      (λ k q i t l m y. fits_also (headed_fits s c d (suc d) (expr d s c) (λ j u. expr_fits d j u) n k q i i) (omega arith) (λ a u v. omega arith)) stops)
      (leaf_fits s c (suc d) n at (suc d))

  pub expression_fits : (d at : ℕ) → d ≤ 15 → Fits (NarrowExpr c) expr_size at 1 (expression s d c at)
  unfolding expression
  expression_fits d at l =
      given_then _ (expr_fits d 16 at)
      (λ x n h. fits
      (record { named = expr_deeper c x.tree (suc d) 16 (omega arith) h.good.named; narrow = expr_narrow x.tree (omega arith) })
      (omega arith) (omega arith))
