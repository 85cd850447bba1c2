-- Brackets, fixed words and names, and what is asked of a name without reading on: they depend on nothing after what they reach. Assumes nothing.
use Rattle.std.specs.Prelude.{None, Option, Some}
use mathlib.Core.Path.{refl}
use mathlib.Core.List.{List}
use mathlib.Core.Bool.{Bool, true, false, cond}
use Prim.Native.Nat.{ℕ}
use lib.ListN.{length}
use lib.Dec.{eqb, ltb}
use Rattle.text_words.specs.Spelling.{same_word}
use Rattle.text_words.specs.Fixed.{is_reserved}
use Rattle.text_tokens.specs.Runs.{part}
use Rattle.text_tokens.specs.declared.tokens.Word.{Word}
use Rattle.text_tokens.specs.declared.tokens.Word.TheVariants as W
use Rattle.text_tokens.specs.declared.tokens.Token.{Token}
use Rattle.text_tokens.specs.declared.tokens.Token.TheVariants as T
use Rattle.domain_meaning.specs.Read.{◌>>=◌, Reader, give, refuse}
use Rattle.domain_meaning.specs.Tables.{Table, lookup, on_found, fresh, declared}
use Rattle.domain_meaning.specs.Due.{wrong, after_of, on_word, opening, closing, is_name_word, word_due, Name, any_name, new_name}
use Rattle.domain_refusal_laws.proofs.Local.{Edge, next, Local, Plain, assoc, Behind, token_then, refuses, wrongs, choose, choose_then, Held, stays}
use Rattle.domain_refusal_laws.proofs.Local.{stops, gives_behind, worded, on_word_lem, on_open_lem, on_close_lem}

-- ---- what reads nothing

pub fresh_held : (max : ℕ) (t : Table) (p : ℕ) (w : List ℕ) (n : ℕ) → Held p n (fresh max t p w n)
unfolding fresh
fresh_held max t p w n = go (lookup t w) (ltb (length t) max)
  where
    go : (f : Option ℕ) (b : Bool) → Held p n (on_found f (λ i. refuse 7 p) (cond b (give p) (refuse 12 p)) n)
    go (Some i) b = stops 7 refl
    go None true = stays p refl
    go None false = stops 12 refl

pub declared_held : (t : Table) (p : ℕ) (w : List ℕ) (n : ℕ) → Held p n (declared t p w n)
unfolding declared
declared_held t p w n = go (lookup t w)
  where
    go : (f : Option ℕ) → Held p n (on_found f (λ i. give i) (refuse 8 p) n)
    go (Some i) = stays i refl
    go None = stops 8 refl

-- ---- brackets and words

module _ {E : Edge} (d : ℕ) where
  pub opening_local : Plain E (λ v. opening v d)
  unfolding opening
  opening_local = token_then (on_open_lem (λ p n. choose (eqb d 0) refuses gives_behind) (λ t. wrongs d))

  pub closing_local : Plain E (λ v. closing v d)
  unfolding closing
  closing_local = token_then (on_close_lem (λ p n. gives_behind) (λ t. wrongs d))

  pub word_local : (w : List ℕ) → Plain E (λ v. word_due v d w)
  unfolding word_due
  word_local w =
      token_then (on_word_lem
      (λ k p e. worded (λ v x. cond (same_word x w) (give p) (refuse 3 p)) (λ x. choose (same_word x w) gives_behind refuses))
      (λ t. wrongs d))

-- a word, or a refusal, before something else
pub word_then : {A B : Type 0} {E : Edge} {F : ℕ → Type 0} (d : ℕ) (h : List ℕ → Word → ℕ → ℕ → Reader B) (g : List ℕ → B → Reader A)
    → ((k : Word) (p e : ℕ) → Behind E (T.Word k p e) e F (λ v. ◌>>=◌ (h v k p e) (g v)))
    → (t : Token) → Behind E t (after_of t) F (λ v. ◌>>=◌ (on_word t (h v) (wrong d t)) (g v))
word_then d h g f (T.Word k p e) = f k p e
word_then d h g f (T.Number z p e) = refuses
word_then d h g f (T.Open p n) = refuses
word_then d h g f (T.Close p n) = refuses
word_then d h g f (T.Mark m p n) = refuses
word_then d h g f (T.Refusal k p) = refuses
word_then d h g f (T.End p) = refuses

module _ {A : Type 0} {E : Edge} {F : ℕ → Type 0} {g : List ℕ → Name → Reader A} (d : ℕ)
    (f : (n : Name) (e : ℕ) → Behind E (T.Word W.Name n.place e) e F (λ v. g v n)) where
  name_word : (k : Word) (p e : ℕ)
      → Behind E (T.Word k p e) e F (λ v. ◌>>=◌ (cond (is_name_word k) (give (record { place = p; word = part v p e })) (refuse 3 p)) (g v))
  name_word W.Name p e = worded (λ v w. g v (record { place = p; word = w })) (λ w. f (record { place = p; word = w }) e)
  name_word W.Variable p e = refuses
  name_word W.Keyword p e = refuses
  name_word W.Operator p e = refuses

  pub name_then : Local E (next E) F (λ v. ◌>>=◌ (any_name v d) (g v))
  unfolding any_name
  name_then = token_then (word_then d (λ v k p e. cond (is_name_word k) (give (record { place = p; word = part v p e })) (refuse 3 p)) g name_word)

pub new_then : {A : Type 0} {E : Edge} {F : ℕ → Type 0} {g : List ℕ → Name → Reader A} (d : ℕ)
    → ((n : Name) (e : ℕ) → Behind E (T.Word W.Name n.place e) e F (λ v. g v n)) → Local E (next E) F (λ v. ◌>>=◌ (new_name v d) (g v))
unfolding new_name
new_then {g = g} d f =
    assoc (λ v. any_name v d) (λ v n. cond (is_reserved n.word) (refuse 3 n.place) (give n)) g
    (name_then d (λ n e. choose_then (λ v. refuse 3 n.place) (λ v. give n) g (is_reserved n.word) refuses (f n e)))
