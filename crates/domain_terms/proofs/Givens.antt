-- The ways of reading an argument. Assumes nothing.
use Rattle.std.specs.Prelude.{None, Option, Some}
use mathlib.Core.Path.{◌≡◌, refl}
use mathlib.Core.List.{List, [], ◌∷◌}
use mathlib.Core.Bool.{Bool, true, false, cond}
use Prim.Native.Nat.{ℕ, ◌+◌, ◌-◌, ◌≤◌, ◌<◌}
use types.Run.{OneOf}
use denote.Enum.Declared.{tag_of}
use borrow.Author.Tests.{lt-ltb, le-ltb}
use Rattle.text_tokens.specs.Runs.{part}
use Rattle.text_tokens.specs.Tokens.{token_at}
use Rattle.text_tokens.specs.declared.tokens.Token.{Token}
use Rattle.text_tokens.specs.declared.tokens.Token.TheVariants as T
use Rattle.text_tokens.specs.declared.tokens.Word.{Word}
use Rattle.text_tokens.specs.declared.tokens.Word.TheVariants as W
use Rattle.text_tokens.specs.contracts.tokens.Token as token-type
use Rattle.domain_meaning.specs.Read.{and_then, give, refuse}
use Rattle.domain_meaning.specs.Tables.{entry_at, type_of, lookup, on_found, declared}
use Rattle.domain_meaning.specs.Due.{number_of, place_of}
use Rattle.domain_meaning.specs.Terms.{Scope, Given, object_at, variable_at, given_by, argument}
use Rattle.domain_due.specs.Answers.{Parsed, Done, Refused, Ahead}
use Rattle.domain_due.proofs.Dues.{not_word, ahead_refused, ahead_by}
use Rattle.domain_terms.specs.Cells.{cell_answer, type_of_cell, Cellular}

pub cell_done : (a v : ℕ) → v < 128 → Cellular (Done a v)
unfolding Cellular
cell_done a v h = h

pub cell_refused : (k p : ℕ) (r : Parsed) → r ≡ Refused k p → Cellular r
unfolding Cellular
cell_refused k p r e = rw e tt

pub cell_at : (a v : ℕ) (r : Parsed) → r ≡ Done a v → Cellular r → v < 128
unfolding Cellular
cell_at a v r e h = rw e at h

module _ (s : List ℕ) (c : Scope) (p e : ℕ) where
  pub name_found : (i : ℕ) → lookup c.objects (part s p e) ≡ Some i → Done e i ≡ cell_answer (given_by s c W.Name p e e)
  unfolding declared
  name_found i q = rw q

  pub name_missing : lookup c.objects (part s p e) ≡ None → Refused 8 p ≡ cell_answer (given_by s c W.Name p e e)
  unfolding declared
  name_missing q = rw q

  pub variable_out : c.in_action ≡ false → Refused 3 p ≡ cell_answer (given_by s c W.Variable p e e)
  variable_out q = rw q

  pub variable_found : (i : ℕ) → c.in_action ≡ true → lookup c.variables (part s (p + 1) e) ≡ Some i
      → Done e (64 + i) ≡ cell_answer (given_by s c W.Variable p e e)
  unfolding declared
  variable_found i h q = rw (h, q)

  pub variable_missing : c.in_action ≡ true → lookup c.variables (part s (p + 1) e) ≡ None → Refused 8 p ≡ cell_answer (given_by s c W.Variable p e e)
  unfolding declared
  variable_missing h q = rw (h, q)

  -- what is read ends where the word does
  found_ahead : (n at : ℕ) (f : Option ℕ) (g : ℕ → Given) → at < e → e ≤ n
      → Ahead n at (cell_answer (and_then (on_found f (λ i. give i) (refuse 8 p) e) (λ i. give (g i))))
  found_ahead n at (Some i) g lo hi = ahead_by n at e _ lo hi
  found_ahead n at None g lo hi = ahead_refused n at 8 p _ refl

  pub name_ahead : (n at : ℕ) → at < e → e ≤ n → Ahead n at (cell_answer (given_by s c W.Name p e e))
  unfolding declared
  name_ahead n at lo hi = found_ahead n at (lookup c.objects (part s p e)) (λ i. object_at c p i) lo hi

  pub variable_ahead : (n at : ℕ) → at < e → e ≤ n → Ahead n at (cell_answer (given_by s c W.Variable p e e))
  unfolding declared
  variable_ahead n at lo hi = go c.in_action
    where
      go : (t : Bool) → Ahead n at (cell_answer (cond t (λ b. and_then (on_found (lookup c.variables (part s (p + 1) e)) (λ i. give i) (refuse 8 p) b)
          (λ i. give (variable_at c p i))) (refuse 3 p) e))
      go true = found_ahead n at (lookup c.variables (part s (p + 1) e)) (λ i. variable_at c p i) lo hi
      go false = ahead_refused n at 3 p _ refl

module _ (s : List ℕ) (d at : ℕ) (c : Scope) where
  pub argument_else : (t : Token) (r : Parsed) → t ≡ token_at s at → OneOf (1 ∷ 2 ∷ 3 ∷ 4 ∷ 5 ∷ 6 ∷ []) (tag_of token-type.the_type t)
      → r ≡ Refused (number_of d t) (place_of t) → r ≡ cell_answer (argument s d c at)
  unfolding argument
  argument_else t r e o q = rw (← e, not_word t _ _ o) q

  pub argument_word : (k j : Word) (p e : ℕ) → token_at s at ≡ T.Word k p e → k ≡ j → argument s d c at ≡ given_by s c j p e e
  unfolding argument
  argument_word k j p e q h = rw (q, h)

-- ---- the type of a cell

pub cell_object : (c : Scope) (x v : ℕ) → x < 64 → v ≡ type_of (entry_at c.objects x) → v ≡ type_of_cell c x
unfolding type_of_cell
cell_object c x v h q = rw (lt-ltb x 64 h) q

pub cell_variable : (c : Scope) (x v : ℕ) → 64 ≤ x → v ≡ type_of (entry_at c.variables (x - 64)) → v ≡ type_of_cell c x
unfolding type_of_cell
cell_variable c x v h q = rw (le-ltb x 64 h) q
