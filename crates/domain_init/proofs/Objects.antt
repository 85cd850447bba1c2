-- Where there is no action, the arguments that are read are objects of the table, as many as are wanted. Assumes nothing.
use Rattle.std.specs.Prelude.{None, Option, Some}
use mathlib.Core.Path.{◌≡◌, refl, ap}
use mathlib.Core.List.{List, [], ◌∷◌}
use mathlib.Core.Bool.{Bool, true, false, cond}
use Prim.Native.Nat.{ℕ, suc}
use lib.ListN.{length}
use Rattle.text_tokens.specs.Runs.{part}
use Rattle.text_tokens.specs.Tokens.{token_at}
use Rattle.text_tokens.specs.declared.tokens.Token.{Token}
use Rattle.text_tokens.specs.declared.tokens.Token.TheVariants as T
use Rattle.text_tokens.specs.declared.tokens.Word.{Word}
use Rattle.text_tokens.specs.declared.tokens.Word.TheVariants as W
use Rattle.domain_meaning.specs.Read.{Read, Reader, got, refused, and_then, give, refuse}
use Rattle.domain_meaning.specs.Tables.{lookup, on_found, declared, is_below}
use Rattle.domain_meaning.specs.Due.{after_of, wrong, on_word, on_close, closing}
use Rattle.domain_meaning.specs.Terms.{Scope, Arg, Given, object_at, given_by, argument, fits, arguments}
use Rattle.domain_terms.proofs.Kept.{found_below}
use Rattle.domain_init.proofs.Digits.{ObjectBelow, Objects}

-- what was read is such, if any was
unfoldable pub Every : {A : Type 0} → (A → Type 0) → Read A → Type 0
Every P (got a n) = P a
Every P (refused k p) = Unit {0}

every_then : {A B : Type 0} (P : A → Type 0) (Q : B → Type 0) (x : Read A) (f : A → Reader B) → Every P x → ((a : A) (n : ℕ) → P a → Every Q (f a n))
    → Every Q (and_then x f)
unfolding Every
every_then P Q (got a n) f h g = g a n h
every_then P Q (refused k p) f h g = tt

every_any : {A B : Type 0} (Q : B → Type 0) (x : Read A) (f : A → Reader B) → ((a : A) (n : ℕ) → Every Q (f a n)) → Every Q (and_then x f)
unfolding Every
every_any Q (got a n) f g = g a n
every_any Q (refused k p) f g = tt

every_close : {A : Type 0} (Q : A → Type 0) (at : ℕ) (t : Token) (f : ℕ → Reader A) (g : Reader A) → ((p : ℕ) → Every Q (f p at)) → Every Q (g at)
    → Every Q (on_close t f g at)
every_close Q at (T.Word w p e) f g h j = j
every_close Q at (T.Number z p e) f g h j = j
every_close Q at (T.Open p n) f g h j = j
every_close Q at (T.Close p n) f g h j = h p
every_close Q at (T.Mark m p n) f g h j = j
every_close Q at (T.Refusal m p) f g h j = j
every_close Q at (T.End p) f g h j = j

module _ (s : List ℕ) (d : ℕ) (c : Scope) (out : c.in_action ≡ false) where
  abbrev n : ℕ
  n = length c.objects

  abbrev Whole : Given → Type 0
  Whole g = ObjectBelow n g.arg

  word_object : (k : Word) (p e at : ℕ) → Every Whole (given_by s c k p e at)
  unfolding Every declared
  word_object W.Name p e at = go (lookup c.objects (part s p e)) refl
    where
      go : (f : Option ℕ) → lookup c.objects (part s p e) ≡ f → Every Whole (and_then (on_found f (λ i. give i) (refuse 8 p) at) (λ i. give (object_at c p i)))
      go (Some i) q = found_below c.objects (part s p e) i q
      go None q = tt
  word_object W.Variable p e at = rw out tt
  word_object W.Keyword p e at = tt
  word_object W.Operator p e at = tt

  token_object : (t : Token) → Every Whole (on_word t (given_by s c) (wrong d t) (after_of t))
  unfolding Every
  token_object (T.Word k p e) = word_object k p e e
  token_object (T.Number z p e) = tt
  token_object (T.Open p m) = tt
  token_object (T.Close p m) = tt
  token_object (T.Mark b p m) = tt
  token_object (T.Refusal k p) = tt
  token_object (T.End p) = tt

  argument_object : (at : ℕ) → Every Whole (argument s d c at)
  unfolding argument
  argument_object at = token_object (token_at s at)

  fits_object : (w : ℕ) (g : Given) (at : ℕ) → ObjectBelow n g.arg → Every (ObjectBelow n) (fits c w g at)
  unfolding fits Every
  fits_object w g at h = go (is_below (length c.types) c.types g.type w)
    where
      go : (t : Bool) → Every (ObjectBelow n) (cond t (give g.arg) (refuse 10 g.place) at)
      go true = h
      go false = tt

  objects_none : Objects n []
  unfolding Objects
  objects_none = tt

  objects_more : (a : Arg) (as' : List Arg) → ObjectBelow n a → Objects n as' → Objects n (a ∷ as')
  unfolding Objects
  objects_more a as' h g = (h, g)

  pub objects_only : (ws : List ℕ) (at : ℕ) → Every (Objects n) (arguments s d c ws at)
  unfolding arguments Every
  objects_only [] at =
      every_close (Objects n) at (token_at s at) _ _
      (λ p. every_any (Objects n) (closing s d at) _ (λ a m. objects_none))
      (every_any (Objects n) (argument s d c at) _ (λ g m. tt))
  objects_only (w ∷ ws) at =
      every_close (Objects n) at (token_at s at) _ _ (λ p. tt)
      (every_then Whole (Objects n) (argument s d c at) _ (argument_object at)
      (λ g m h. every_then (ObjectBelow n) (Objects n) (fits c w g m) _ (fits_object w g m h)
      (λ a b k. every_then (Objects n) (Objects n) (arguments s d c ws b) _ (objects_only ws b)
      (λ as' e l. objects_more a as' k l))))

-- ---- as many as are wanted

abbrev pub Many : ℕ → List Arg → Type 0
Many k as' = length as' ≡ k

pub many : (s : List ℕ) (d : ℕ) (c : Scope) (ws : List ℕ) (at : ℕ) → Every (Many (length ws)) (arguments s d c ws at)
unfolding arguments Every
many s d c [] at =
    every_close (Many 0) at (token_at s at) _ _
    (λ p. every_any (Many 0) (closing s d at) _ (λ a m. refl))
    (every_any (Many 0) (argument s d c at) _ (λ g m. tt))
many s d c (w ∷ ws) at =
    every_close (Many (suc (length ws))) at (token_at s at) _ _ (λ p. tt)
    (every_any (Many (suc (length ws))) (argument s d c at) _
    (λ g m. every_any (Many (suc (length ws))) (fits c w g m) _
    (λ a b. every_then (Many (length ws)) (Many (suc (length ws))) (arguments s d c ws b) _ (many s d c ws b)
    (λ as' e l. ap suc l))))
