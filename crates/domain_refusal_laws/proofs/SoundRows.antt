-- Brackets, names, tables and lists are read soundly. Assumes nothing.
use Rattle.std.specs.Prelude.{None, Option, Some}
use mathlib.Core.Path.{refl}
use mathlib.Core.List.{List, [], ◌∷◌}
use mathlib.Core.Bool.{Bool, true, false, cond, ◌||◌}
use Prim.Native.Nat.{ℕ, zero, suc, ◌+◌, ◌<◌}
use native.Mathlib.Omega.{arith}
use lib.Dec.{eqb, ltb}
use lib.ListN.{length}
use Rattle.text_words.specs.Bytes.{bytes}
use Rattle.text_words.specs.Spelling.{same_word}
use Rattle.text_words.specs.Fixed.{is_reserved}
use Rattle.text_tokens.specs.Runs.{part}
use Rattle.text_tokens.specs.Tokens.{spot_at}
use Rattle.text_tokens.specs.declared.tokens.Word.{Word}
use Rattle.text_tokens.specs.declared.tokens.Word.TheVariants as W
use Rattle.domain_meaning.specs.Read.{Reader}
use Rattle.domain_meaning.specs.Tables.{Table, entry, lookup, fresh, declared}
use Rattle.domain_meaning.specs.Due.{opening, closing, is_name_word, word_due, Name, any_name, new_name}
use Rattle.domain_meaning.specs.Lists.{type_named, either_of, type_of_word, type_of_other, type_due, group, Item, closes, dash, names, item_of, item, on_item, declare}
use Rattle.domain_meaning.specs.Lists.{waiting, typed, names_to, variables_to, types_to, declaration, declarations}
use Rattle.domain_refusal_laws.specs.Lowest.{next_of}
use Rattle.domain_refusal_laws.proofs.Nearness.{token_stands, Spotted, spot_place}
use Rattle.domain_refusal_laws.proofs.Sound.{Stands, Sound, Any, gives, refuses, spent, then, choose, found, token_then, wrongs, on_word_lem, on_open_lem}
use Rattle.domain_refusal_laws.proofs.Sound.{on_close_lem, peek_close}

-- a name has its place, and so has what a list goes on with
abbrev pub Named : List ℕ → Name → Type 0
Named s n = Stands s n.place

abbrev Listing : List ℕ → Item → Type 0
Listing s closes = Unit {0}
Listing s (dash p) = Stands s p
Listing s (names p w) = Stands s p

module _ {s : List ℕ} {x : ℕ} where
  -- ---- what reads nothing

  pub fresh_sound : {from p : ℕ} (max : ℕ) (t : Table) (w : List ℕ) → Stands s p → Sound s x from 0 Any (fresh max t p w)
  unfolding fresh
  fresh_sound max t w h = found (lookup t w) (λ i. refuses refl h) (choose (ltb (length t) max) (gives tt) (refuses refl h))

  pub declared_sound : {from p : ℕ} (t : Table) (w : List ℕ) → Stands s p → Sound s x from 0 Any (declared t p w)
  unfolding declared
  declared_sound t w h = found (lookup t w) (λ i. gives tt) (refuses refl h)

  -- ---- brackets and words

  pub opening_sound : {from : ℕ} (d : ℕ) → Sound s x from 1 Any (opening s d)
  unfolding opening
  opening_sound d = token_then (on_open_lem (λ p h i. choose (eqb d 0) (refuses refl h) (gives tt)) (wrongs d))

  -- where no level is left, every bracket is refused
  pub shut_sound : {from : ℕ} → Sound s x from 1 (λ i. ⊥) (opening s 0)
  unfolding opening
  shut_sound = token_then (on_open_lem (λ p h i. refuses {b = 0} refl h) (wrongs 0))

  pub closing_sound : {from : ℕ} (d : ℕ) → Sound s x from 1 Any (closing s d)
  unfolding closing
  closing_sound d = token_then (on_close_lem (λ p. gives tt) (wrongs d))

  pub word_sound : {from : ℕ} (d : ℕ) (w : List ℕ) → Sound s x from 1 (Stands s) (word_due s d w)
  unfolding word_due
  word_sound d w = token_then (on_word_lem (λ k p e h. choose (same_word (part s p e) w) (gives h) (refuses refl h)) (wrongs d))

  pub name_sound : {from : ℕ} (d : ℕ) → Sound s x from 1 (Named s) (any_name s d)
  unfolding any_name
  name_sound d = token_then (on_word_lem (λ k p e h. choose (is_name_word k) (gives h) (refuses refl h)) (wrongs d))

  pub new_sound : {from : ℕ} (d : ℕ) → Sound s x from 1 (Named s) (new_name s d)
  unfolding new_name
  new_sound d = then (name_sound d) (λ n h. choose (is_reserved n.word) (refuses refl h) (gives h))

  -- ---- types

  named_sound : {from p : ℕ} (ts : Table) (b : ℕ) (w : List ℕ) → Stands s p → Sound s x from 0 Any (type_named ts b p w)
  unfolding type_named
  named_sound ts b w h = found (lookup ts w) (λ i. choose (ltb i b) (gives tt) (refuses refl h)) (refuses refl h)

  type_word : {from : ℕ} (ts : Table) (b : ℕ) (k : Word) (p e : ℕ) → Stands s p → Sound s x from 0 Any (type_of_word s ts b k p e)
  type_word ts b W.Name p e h = named_sound ts b (part s p e) h
  type_word ts b W.Variable p e h = refuses refl h
  type_word ts b W.Keyword p e h = refuses refl h
  type_word ts b W.Operator p e h = refuses refl h

  -- `either` stands where a token stands
  either_sound : {from : ℕ} (p : ℕ) → Stands s p → p < length s → Sound s x from 0 Any (type_of_other s p)
  either_sound {from} p h i = go (spot_at s (p + 1) (bytes "either")) (spot_place s (p + 1) (bytes "either"))
    where
      go : (t : Option (ℕ × ℕ)) → Spotted (next_of s (p + 1)) t → Sound s x from 0 Any (either_of p t)
      go (Some (q, e)) j =
          let k = token_stands s (p + 1) (omega arith) in
          refuses refl (record { inside = omega arith; low = omega arith })
      go None j = refuses refl h

  type_sound : {from : ℕ} (ts : Table) (b : ℕ) → Sound s x from 1 Any (type_due s ts b)
  unfolding type_due
  type_sound ts b = token_then (on_word_lem (λ k p e h. type_word ts b k p e h) (on_open_lem (λ p h i. either_sound p h i) (wrongs 13)))

  group_sound : {from : ℕ} (own : Bool) (ts t : Table) (g : ℕ) → Sound s x from 1 Any (group s own ts t g)
  unfolding group
  group_sound own ts t g = then (type_sound (cond own t ts) (cond own g (length ts))) (λ k _. gives tt)

  -- ---- lists

  item_word : {from : ℕ} (var : Bool) (k : Word) (p e : ℕ) → Stands s p → Sound s x from 0 (Listing s) (item_of s var k p e)
  item_word var W.Name p e h = choose (var || is_reserved (part s p e)) (refuses refl h) (gives h)
  item_word var W.Variable p e h = choose var (gives h) (refuses refl h)
  item_word var W.Keyword p e h = refuses refl h
  item_word var W.Operator p e h = choose (same_word (part s p e) (bytes "-")) (gives h) (refuses refl h)

  item_sound : {from : ℕ} (var : Bool) → Sound s x from 1 (Listing s) (item s var)
  unfolding item
  item_sound var = token_then (on_close_lem (λ p. gives tt) (on_word_lem (λ k p e h. item_word var k p e h) (wrongs 13)))

  on_item_lem : {A : Type 0} {from b : ℕ} {Q : A → Type 0} {c : Reader A} {f : ℕ → Reader A} {g : ℕ → List ℕ → Reader A} (i : Item) → Listing s i
      → Sound s x from b Q c
      → ((p : ℕ) → Stands s p → Sound s x from b Q (f p)) → ((p : ℕ) (w : List ℕ) → Stands s p → Sound s x from b Q (g p w))
      → Sound s x from b Q (on_item i c f g)
  on_item_lem closes q h j k = h
  on_item_lem (dash p) q h j k = j p q
  on_item_lem (names p w) q h j k = k p w q

  declare_sound : {from p : ℕ} (max : ℕ) (t : Table) (w : List ℕ) → Stands s p → Sound s x from 0 Any (declare max t p w)
  unfolding declare
  declare_sound max t w h = then (fresh_sound max t w h) (λ i _. gives tt)

  waiting_sound : {from p : ℕ} (t : Table) (g : ℕ) → Stands s p → Sound s x from 0 Any (waiting t g p)
  unfolding waiting
  waiting_sound t g h = choose (ltb g (length t)) (gives tt) (refuses refl h)

  -- each step takes a byte: as many as the text has, and one, suffice
  typed_sound : {from : ℕ} (k : ℕ) (var own : Bool) (ts : Table) (max : ℕ) (t : Table) (g : ℕ) → length s < k + from
      → Sound s x from 1 Any (typed k s var own ts max t g)
  unfolding typed
  typed_sound zero var own ts max t g h = spent (omega arith)
  typed_sound {from = from} (suc k) var own ts max t g h =
      then (item_sound var) (λ i q. on_item_lem i q
      (gives tt)
      (λ p q. then (waiting_sound t g q) (λ i _. then (group_sound own ts t g) (λ u _. typed_sound {from = from + 1 + 0 + 1} k var own ts max u (length u) (omega arith))))
      (λ p w q. then (declare_sound max t w q) (λ u _. typed_sound {from = from + 1 + 0} k var own ts max u g (omega arith))))

  pub names_sound : {from : ℕ} (ts : Table) (max : ℕ) (t : Table) → Sound s x from 1 Any (names_to s ts max t)
  unfolding names_to
  names_sound ts max t = typed_sound (length s + 1) false false ts max t (length t) (omega arith)

  pub variables_sound : {from : ℕ} (ts : Table) (max : ℕ) → Sound s x from 1 Any (variables_to s ts max)
  unfolding variables_to
  variables_sound ts max = typed_sound (length s + 1) true false ts max [] 0 (omega arith)

  pub types_sound : {from : ℕ} → Sound s x from 1 Any (types_to s)
  unfolding types_to
  types_sound = typed_sound (length s + 1) false true [] 17 (entry (bytes "object") (0 ∷ []) ∷ []) 1 (omega arith)

  -- ---- declarations

  declaration_sound : {from : ℕ} (ts : Table) (max most : ℕ) (t : Table) → Sound s x from 1 Any (declaration s ts max most t)
  unfolding declaration
  declaration_sound ts max most t =
      then (new_sound _) (λ n h. then (fresh_sound max t n.word h) (λ i _. then (variables_sound ts most) (λ vs _. gives tt)))

  pub declarations_sound : {from : ℕ} (k : ℕ) (ts : Table) (max most : ℕ) (t : Table) → length s < k + from
      → Sound s x from 1 Any (declarations k s ts max most t)
  unfolding declarations
  declarations_sound zero ts max most t h = spent (omega arith)
  declarations_sound {from = from} (suc k) ts max most t h =
      peek_close
      (λ p q. then (closing_sound _) (λ i _. gives tt))
      (then (opening_sound _) (λ i _. then (declaration_sound ts max most t) (λ u _. declarations_sound {from = from + 1 + 1} k ts max most u (omega arith))))
