-- What every name more and every type that is given keep, holds of a table that is read. Assumes nothing.
use Rattle.std.specs.Prelude.{None, Option, Some}
use mathlib.Core.Path.{◌≡◌, refl, ap}
use mathlib.Core.List.{List, [], ◌∷◌, ◌++◌}
use mathlib.Core.Bool.{Bool, true, false, cond, ◌||◌}
use Prim.Native.Nat.{ℕ, zero, suc, ◌+◌, ◌-◌, ◌≤◌, ◌<◌}
use native.Mathlib.Omega.{arith}
use lib.Dec.{ltb}
use lib.ListN.{length, length-append, length-map}
use Rattle.text_words.specs.Bytes.{bytes}
use Rattle.text_words.specs.Spelling.{same_word}
use Rattle.text_words.specs.Fixed.{is_reserved}
use Rattle.text_tokens.specs.Runs.{part}
use Rattle.text_tokens.specs.Tokens.{token_at, spot_at}
use Rattle.text_tokens.specs.declared.tokens.Word.{Word}
use Rattle.text_tokens.specs.declared.tokens.Word.TheVariants as W
use Rattle.text_tokens.proofs.Within.{Sized, part_length}
use Rattle.domain_meaning.specs.Read.{Reader, and_then, give, refuse}
use Rattle.domain_meaning.specs.Tables.{entry, Table, lookup, on_found, with_type, retype}
use Rattle.domain_meaning.specs.Due.{opening, closing}
use Rattle.domain_meaning.specs.Lists.{type_named, type_of_word, type_of_other, either_of, type_due, group, Item, closes, dash, names, item_of, item, on_item}
use Rattle.domain_meaning.specs.Lists.{declare, waiting, typed, names_to, variables_to, signature, declaration, declarations}
use Rattle.domain_meaning.specs.Domain.{begins_with, declared_section}
use Rattle.domain_meaning.proofs.Given.{Gives, Fits, Ahead, reads, fits, stops, behind, given_then, given_also, word_gives, open_gives, close_gives}
use Rattle.domain_meaning.proofs.Given.{close_ahead, opened_gives, either_gives}
use Rattle.domain_meaning.proofs.Steps.{ahead, new_name_fits, fresh_fits}

-- ---- a type is due

type_named_ahead : (ts : Table) (b p : ℕ) (w : List ℕ) (at n : ℕ) → at ≤ n → Ahead 0 at (type_named ts b p w n)
unfolding type_named
type_named_ahead ts b p w at n h = go (lookup ts w)
  where
    go : (f : Option ℕ) → Ahead 0 at (on_found f (λ i. cond (ltb i b) (give i) (refuse 8 p)) (refuse 8 p) n)
    go (Some i) = either_gives (ltb i b) _ _ n (ahead at n h) stops
    go None = stops

module _ (s : List ℕ) where
  type_word_ahead : (ts : Table) (b : ℕ) (k : Word) (p e at n : ℕ) → at ≤ n → Ahead 0 at (type_of_word s ts b k p e n)
  type_word_ahead ts b W.Name p e at n h = type_named_ahead ts b p (part s p e) at n h
  type_word_ahead ts b W.Variable p e at n h = stops
  type_word_ahead ts b W.Keyword p e at n h = stops
  type_word_ahead ts b W.Operator p e at n h = stops

  type_other_ahead : (p at n : ℕ) → Ahead 0 at (type_of_other s p n)
  type_other_ahead p at n = go (spot_at s (p + 1) (bytes "either"))
    where
      go : (x : Option (ℕ × ℕ)) → Ahead 0 at (either_of p x n)
      go (Some (q, e)) = stops
      go None = stops

  type_ahead : (ts : Table) (b at : ℕ) → Ahead 0 at (type_due s ts b at)
  unfolding type_due
  type_ahead ts b at =
      word_gives s at _ _ (λ k p e l h i z. type_word_ahead ts b k p e at e (omega arith)) (open_gives s at _ _ (λ p e h i. type_other_ahead p at e) stops)

  -- ---- what stands in a list: a name of at most 32 bytes, a dash, or its end

  abbrev ShortItem : Item → Type 0
  ShortItem closes = Unit {0}
  ShortItem (dash p) = Unit {0}
  ShortItem (names p w) = length w ≤ 32

  item_of_lem : (var : Bool) (k : Word) (p e at : ℕ) → at < e → e ≤ length s → Sized k (e - p) → Fits ShortItem (λ _. 0) at 0 (item_of s var k p e e)
  item_of_lem var W.Name p e at h i z =
      either_gives (var || is_reserved (part s p e)) _ _ e stops
      (fits {a = names p (part s p e)} (let l : length (part s p e) ≤ 32 = omega (arith, z, part_length s p e i) in l) (omega arith) (omega arith))
  item_of_lem var W.Variable p e at h i z =
      either_gives var _ _ e
      (fits {a = names p (part s (p + 1) e)} (let l : length (part s (p + 1) e) ≤ 32 = omega (arith, z, part_length s (p + 1) e i) in l) (omega arith)
      (omega arith))
      stops
  item_of_lem var W.Keyword p e at h i z = stops
  item_of_lem var W.Operator p e at h i z = either_gives (same_word (part s p e) (bytes "-")) _ _ e (fits {a = dash p} tt (omega arith) (omega arith)) stops

  item_fits : (var : Bool) (at : ℕ) → Fits ShortItem (λ _. 0) at 0 (item s var at)
  unfolding item
  item_fits var at =
      close_gives s at _ _ (λ p e h i. fits {a = closes} tt (omega arith) (omega arith))
      (word_gives s at _ _ (λ k p e l h i z. item_of_lem var k p e at h i z) stops)

-- ---- typed lists

-- P of a table with room for `max` names
module _ (P : Table → Type 0) (max : ℕ) (again : (g k : ℕ) (t : Table) → P t → P (retype g k t))
    (more : (t : Table) (w : List ℕ) → length t < max → length w ≤ 32 → P t → P (t ++ entry w (0 ∷ []) ∷ [])) (s : List ℕ) where
  abbrev Keeps : ℕ → Reader Table → ℕ → Type 0
  Keeps at r n = Fits P (λ _. 0) at 0 (r n)

  group_keeps : (own : Bool) (ts t : Table) (g at n : ℕ) → at ≤ n → P t → Keeps at (group s own ts t g) n
  unfolding group
  group_keeps own ts t g at n l h =
      given_then _ (type_ahead s (cond own t ts) (cond own g (length ts)) n) (λ i m k. fits (again g i t h) (omega arith) (omega arith))

  declare_keeps : (t : Table) (p : ℕ) (w : List ℕ) (at n : ℕ) → at ≤ n → length w ≤ 32 → P t → Keeps at (declare max t p w) n
  unfolding declare
  declare_keeps t p w at n l b h = given_then _ (fresh_fits max t p w n) (λ q m k. fits (more t w k.good b h) (omega arith) (omega arith))

  -- one step, after which f reads the rest
  step_keeps : (x : Item) (own : Bool) (ts t : Table) (g at n : ℕ) (f : Table → ℕ → Reader Table) → at ≤ n → ShortItem s x → P t
      → ((y : Table) (j a : ℕ) → at ≤ a → P y → Keeps at (f y j) a)
      → Keeps at
      (on_item x (give t)
      (λ p b. and_then (waiting t g p b) (λ _ c. and_then (group s own ts t g c) (λ y. f y (length y))))
      (λ p w b. and_then (declare max t p w b) (λ y. f y g))) n
  unfolding waiting
  step_keeps closes own ts t g at n f l i h k = fits h (omega arith) (omega arith)
  step_keeps (dash p) own ts t g at n f l i h k =
      given_then _ (either_gives (ltb g (length t)) (give p) (refuse 3 p) n (ahead at n l) stops)
      (λ q a u. given_then _ (group_keeps own ts t g at a u.on h) (λ y b v. k y (length y) b v.on v.good))
  step_keeps (names p w) own ts t g at n f l i h k = given_then _ (declare_keeps t p w at n l i h) (λ y a v. k y g a v.on v.good)

  pub typed_keeps : (var own : Bool) (ts : Table) (k : ℕ) (t : Table) (g at n : ℕ) → at ≤ n → P t → Keeps at (typed k s var own ts max t g) n
  unfolding typed
  typed_keeps var own ts zero t g at n l h = stops
  typed_keeps var own ts (suc k) t g at n l h =
      given_then _ (item_fits s var n)
      (λ x a i. step_keeps x own ts t g at a (λ y j. typed k s var own ts max y j) (omega arith) i.good h
      (λ y j b u v. typed_keeps var own ts k y j at b u v))

  pub names_keep : (ts t : Table) (at : ℕ) → P t → Gives P (names_to s ts max t at)
  unfolding names_to
  names_keep ts t at h = given_also (typed_keeps false false ts (length s + 1) t (length t) at at (omega arith) h) (λ u n k. k.good)

  pub variables_keep : (ts : Table) (at : ℕ) → P [] → Fits P (λ _. 0) at 0 (variables_to s ts max at)
  unfolding variables_to
  variables_keep ts at h = typed_keeps true false ts (length s + 1) [] 0 at at (omega arith) h

-- ---- never more names than there is room for

pub retype_length : (g k : ℕ) (t : Table) → length (retype g k t) ≡ length t
unfolding retype
retype_length zero k t = length-map t (with_type k)
retype_length (suc g) k [] = refl
retype_length (suc g) k (e ∷ t) = ap suc (retype_length g k t)

pub variables_few : (s : List ℕ) (ts : Table) (max at : ℕ) → Fits (λ t. length t ≤ max) (λ _. 0) at 0 (variables_to s ts max at)
variables_few s ts max at =
    variables_keep (λ t. length t ≤ max) max (λ g k t h. rw (retype_length g k t) h)
    (λ t w r b h. omega (arith, length-append t (entry w (0 ∷ []) ∷ []))) s ts at (omega arith)

-- ---- predicates and functions

module _ (P : Table → Type 0) (s : List ℕ) (ts : Table) (max most : ℕ)
    (more : (t : Table) (w : List ℕ) (vs : Table) → length t < max → length w ≤ 32 → length vs ≤ most → P t → P (t ++ signature w vs ∷ [])) where
  declaration_keeps : (t : Table) (at : ℕ) → P t → Gives P (declaration s ts max most t at)
  unfolding declaration
  declaration_keeps t at h =
      given_then _ (new_name_fits s 13 at)
      (λ n a l. given_then _ (fresh_fits max t n.place n.word a)
      (λ p b k. given_then _ (variables_few s ts most b) (λ vs i v. reads (more t n.word vs k.good l.good v.good h))))

  pub declarations_keep : (k : ℕ) (t : Table) (at : ℕ) → P t → Gives P (declarations k s ts max most t at)
  unfolding declarations
  declarations_keep zero t at h = stops
  declarations_keep (suc k) t at h =
      close_ahead (token_at s at) _ _ at (λ p. behind (closing s 14 at) _ (λ q i. reads h))
      (behind (opening s 14 at) _ (λ q a. given_then _ (declaration_keeps t a h) (λ u b g. declarations_keep k u b g)))

  pub section_keeps : (w : List ℕ) (at : ℕ) → P [] → Gives P (declared_section s w ts max most at)
  unfolding declared_section
  section_keeps w at h = behind (begins_with s w at) _ (λ o n. opened_gives o _ _ n (λ p. declarations_keep (length s + 1) [] n h) (reads h))
