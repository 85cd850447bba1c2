-- Typed lists and declarations depend on nothing after what they reach. Assumes nothing.
use Rattle.std.specs.Prelude.{None, Option, Some}
use mathlib.Core.Path.{◌≡◌, refl}
use mathlib.Core.List.{List, [], ◌∷◌, ◌++◌}
use mathlib.Core.Bool.{Bool, true, false, cond, ◌||◌}
use Prim.Native.Nat.{ℕ, zero, suc, ◌+◌, ◌≤◌, ◌<◌}
use native.Mathlib.Omega.{arith}
use native.Mathlib.Decide.{dec_le}
use lib.ListN.{length}
use lib.Dec.{ltb}
use Rattle.text_words.specs.Bytes.{bytes}
use Rattle.text_words.specs.Spelling.{same_word}
use Rattle.text_words.specs.Fixed.{is_reserved}
use Rattle.text_tokens.specs.Runs.{part}
use Rattle.text_tokens.specs.Tokens.{token_at, spot_at}
use Rattle.text_tokens.specs.declared.tokens.Word.{Word}
use Rattle.text_tokens.specs.declared.tokens.Word.TheVariants as W
use Rattle.text_tokens.specs.declared.tokens.Token.{Token}
use Rattle.text_tokens.specs.declared.tokens.Token.TheVariants as T
use Rattle.domain_meaning.specs.Read.{◌>>=◌, and_then, Read, Reader, got, refused, give, refuse}
use Rattle.domain_meaning.specs.Tables.{entry, Table, lookup, on_found, fresh, retype}
use Rattle.domain_meaning.specs.Due.{token, wrong, after_of, on_word, on_open, on_close, opening}
use Rattle.domain_meaning.specs.Lists.{type_named, either_of, type_of_word, type_of_other, type_due, group, Item, closes, dash, names, item_of, item, on_item, declare}
use Rattle.domain_meaning.specs.Lists.{waiting, typed, names_to, variables_to, types_to, declaration, declarations}
use Rattle.domain_refusal_laws.specs.Lowest.{seen, next_of}
use Rattle.domain_refusal_laws.proofs.Sight.{seen_later}
use Rattle.domain_refusal_laws.proofs.Nearness.{Fits, Spotted, spot_place}
use Rattle.domain_refusal_laws.proofs.Local.{Edge, next, Far, Good, far, refusal, Over, Local, Plain, gives, never, then, bounded, Told, Behind}
use Rattle.domain_refusal_laws.proofs.Local.{token_then, peek_then, after, refuses, wrongs, choose_then, Held, stays, stops, gives_behind, held}
use Rattle.domain_refusal_laws.proofs.Local.{held_last, worded, tailed, on_word_lem, on_open_lem, on_close_lem}
use Rattle.domain_refusal_laws.proofs.Suffice.{off, held_at, Strict, word_strict, opens_strict, Enough, enough, fewer, and_same, close_same}
use Rattle.domain_refusal_laws.proofs.Heads.{fresh_held, opening_local, closing_local, new_then}

-- ---- what reads nothing

type_held : (ts : Table) (b p : ℕ) (w : List ℕ) (n : ℕ) → Held p n (type_named ts b p w n)
unfolding type_named
type_held ts b p w n = go (lookup ts w)
  where
    below : (i : ℕ) (t : Bool) → Held p n (cond t (give i) (refuse 8 p) n)
    below i true = stays i refl
    below i false = stops 8 refl

    go : (f : Option ℕ) → Held p n (on_found f (λ i. cond (ltb i b) (give i) (refuse 8 p)) (refuse 8 p) n)
    go (Some i) = below i (ltb i b)
    go None = stops 8 refl

declare_held : (max : ℕ) (t : Table) (p : ℕ) (w : List ℕ) (n : ℕ) → Held p n (declare max t p w n)
unfolding declare
declare_held max t p w n = go (fresh max t p w n) (fresh_held max t p w n)
  where
    go : (x : Read ℕ) → Held p n x → Held p n (and_then x (λ i. give (t ++ entry w (0 ∷ []) ∷ [])))
    go x (stays i e) = stays (t ++ entry w (0 ∷ []) ∷ []) (rw e)
    go x (stops k e) = stops k (rw e)

waiting_held : (t : Table) (g p n : ℕ) → Held p n (waiting t g p n)
unfolding waiting
waiting_held t g p n = go (ltb g (length t))
  where
    go : (b : Bool) → Held p n (cond b (give p) (refuse 3 p) n)
    go true = stays p refl
    go false = stops 3 refl

-- ---- types

type_word : {E : Edge} (ts : Table) (b : ℕ) (k : Word) (p e : ℕ) → Behind E (T.Word k p e) e (Over E (next E)) (λ v. type_of_word v ts b k p e)
type_word ts b W.Name p e = worded (λ v w. type_named ts b p w) (λ w. held_last (type_named ts b p w) (type_held ts b p w))
type_word ts b W.Variable p e = refuses
type_word ts b W.Keyword p e = refuses
type_word ts b W.Operator p e = refuses

-- a bracket where a type is due is known by the token after it
bracket_behind : {E : Edge} {F : ℕ → Type 0} (p n : ℕ) → Behind E (T.Open p n) n F (λ v. type_of_other v p)
unfolding Far Fits
bracket_behind {E} {F} p n = record { good = λ u r. go u r (dec_le (seen E.text (next E (p + 1))) E.edge) }
  where
    w : List ℕ
    w = bytes "either"

    front : (u : List ℕ) → Told E u (T.Open p n) n → p ≤ next E (p + 1)
    front u r = rw r.fits.0 at r.on

    one : p ≤ next E (p + 1) → (x : Option (ℕ × ℕ)) → Spotted (next E (p + 1)) x → Good E p F (either_of p x n) (either_of p x n)
    one h (Some (g, e)) k = refusal p 11 g (omega arith)
    one h None k = refusal p 3 p (omega arith)

    two : {u : List ℕ} → Told E u (T.Open p n) n → E.edge < seen E.text (next E (p + 1)) → (x : Option (ℕ × ℕ)) → Spotted (next E (p + 1)) x
        → Far E F (either_of p x n)
    two r h (Some (g, e)) k = λ _. omega (arith, E.above 11 g, seen_later E.text (next E (p + 1)) g (omega arith))
    two r h None k = λ _. omega (arith, E.bracket p r.fits.1)

    go : (u : List ℕ) → Told E u (T.Open p n) n → Dec (seen E.text (next E (p + 1)) ≤ E.edge)
        → Good E p F (either_of p (spot_at E.text (p + 1) w) n) (either_of p (spot_at u (p + 1) w) n)
    go u r (yes i) =
        rw (← (r.agrees.same (p + 1) i).either)
        (one (front u r) (spot_at E.text (p + 1) w) (spot_place E.text (p + 1) w))
    go u r (no i) = far (two r (omega arith) (spot_at E.text (p + 1) w) (spot_place E.text (p + 1) w))

type_local : {E : Edge} (ts : Table) (b : ℕ) → Plain E (λ v. type_due v ts b)
unfolding type_due
type_local ts b = token_then (on_word_lem (type_word ts b) (on_open_lem bracket_behind (λ t. wrongs 13)))

group_local : {E : Edge} (own : Bool) (ts t : Table) (g : ℕ) → Plain E (λ v. group v own ts t g)
unfolding group
group_local own ts t g = then (type_local (cond own t ts) (cond own g (length ts))) (λ k. gives)

-- ---- lists

module _ {A : Type 0} {E : Edge} {F : ℕ → Type 0} (var : Bool) (g : List ℕ → Item → Reader A)
    (c : (p n : ℕ) → Behind E (T.Close p n) n F (λ v. g v closes))
    (d : (k : Word) (p e : ℕ) → Behind E (T.Word k p e) e F (λ v. g v (dash p)))
    (f : (k : Word) (p e : ℕ) (w : List ℕ) → Behind E (T.Word k p e) e F (λ v. g v (names p w))) where
  item_word : (k : Word) (p e : ℕ) → Behind E (T.Word k p e) e F (λ v. ◌>>=◌ (item_of v var k p e) (g v))
  item_word W.Name p e =
      worded (λ v w. ◌>>=◌ (cond (var || is_reserved w) (refuse 3 p) (give (names p w))) (g v))
      (λ w. choose_then (λ v. refuse 3 p) (λ v. give (names p w)) g (var || is_reserved w) refuses (f W.Name p e w))
  item_word W.Variable p e =
      tailed (λ v w. ◌>>=◌ (cond var (give (names p w)) (refuse 3 p)) (g v))
      (λ w. choose_then (λ v. give (names p w)) (λ v. refuse 3 p) g var (f W.Variable p e w) refuses)
  item_word W.Keyword p e = refuses
  item_word W.Operator p e =
      worded (λ v w. ◌>>=◌ (cond (same_word w (bytes "-")) (give (dash p)) (refuse 3 p)) (g v))
      (λ w. choose_then (λ v. give (dash p)) (λ v. refuse 3 p) g (same_word w (bytes "-")) (d W.Operator p e) refuses)

  item_token : (t : Token) → Behind E t (after_of t) F (λ v. ◌>>=◌ (on_close t (λ p. give closes) (on_word t (item_of v var) (wrong 13 t))) (g v))
  item_token (T.Word k p e) = item_word k p e
  item_token (T.Number z p e) = refuses
  item_token (T.Open p n) = refuses
  item_token (T.Close p n) = c p n
  item_token (T.Mark m p n) = refuses
  item_token (T.Refusal k p) = refuses
  item_token (T.End p) = refuses

  item_then : Local E (next E) F (λ v. ◌>>=◌ (item v var) (g v))
  unfolding item
  item_then = token_then item_token

typed_local : {E : Edge} (k : ℕ) (var own : Bool) (ts : Table) (max : ℕ) (t : Table) (g : ℕ) → Plain E (λ v. typed k v var own ts max t g)
unfolding typed
typed_local zero var own ts max t g = never
typed_local (suc k) var own ts max t g =
    item_then var _
    (λ p n. gives_behind)
    (λ x p e. held (waiting t g p) (waiting_held t g p) (λ i. after (then (group_local own ts t g) (λ u. typed_local k var own ts max u (length u)))))
    (λ x p e w. held (declare max t p w) (declare_held max t p w) (λ u. after (typed_local k var own ts max u g)))

-- ---- steps suffice: each reads a name, or a dash and a type

item_held : (s : List ℕ) (var : Bool) (k : Word) (p e n : ℕ) → Held p n (item_of s var k p e n)
item_held s var W.Name p e n = go (var || is_reserved (part s p e))
  where
    go : (b : Bool) → Held p n (cond b (refuse 3 p) (give (names p (part s p e))) n)
    go true = stops 3 refl
    go false = stays (names p (part s p e)) refl
item_held s var W.Variable p e n = go var
  where
    go : (b : Bool) → Held p n (cond b (give (names p (part s (p + 1) e))) (refuse 3 p) n)
    go true = stays (names p (part s (p + 1) e)) refl
    go false = stops 3 refl
item_held s var W.Keyword p e n = stops 3 refl
item_held s var W.Operator p e n = go (same_word (part s p e) (bytes "-"))
  where
    go : (b : Bool) → Held p n (cond b (give (dash p)) (refuse 3 p) n)
    go true = stays (dash p) refl
    go false = stops 3 refl

-- of an item that is no end
abbrev Going : Item → Type 0 → Type 0
Going closes P = Unit {0}
Going (dash p) P = P
Going (names p w) P = P

going : {P : Type 0} (i : Item) → P → Going i P
going closes x = tt
going (dash p) x = x
going (names p w) x = x

item_strict : (s : List ℕ) (var : Bool) (at n : ℕ) (i : Item) → item s var at ≡ got i n → Going i ((next_of s at < length s) × (next_of s at < next_of s n))
unfolding item
item_strict s var at n i h = go (token_at s at) refl
  where
    go : (t : Token) → token_at s at ≡ t → Going i ((next_of s at < length s) × (next_of s at < next_of s n))
    go (T.Word k p e) q = let r : n ≡ e = held_at (item_of s var k p e e) (item_held s var k p e e) (rw q at h) in going i (rw r (word_strict s at k p e q))
    go (T.Number z p e) q = off (rw q at h)
    go (T.Open p e) q = off (rw q at h)
    go (T.Close p e) q = let k : ◌≡◌ {A = Read Item} (got closes e) (got i n) = rw q at h in let r : closes ≡ i = cc in rw (← r) tt
    go (T.Mark m p e) q = off (rw q at h)
    go (T.Refusal k p) q = off (rw q at h)
    go (T.End p) q = off (rw q at h)

word_held : (s : List ℕ) (ts : Table) (b : ℕ) (k : Word) (p e n : ℕ) → Held p n (type_of_word s ts b k p e n)
word_held s ts b W.Name p e n = type_held ts b p (part s p e) n
word_held s ts b W.Variable p e n = stops 3 refl
word_held s ts b W.Keyword p e n = stops 3 refl
word_held s ts b W.Operator p e n = stops 3 refl

type_strict : (ts : Table) (b : ℕ) → Strict (λ v. type_due v ts b)
unfolding type_due
type_strict ts b = record { strict = λ s at n a h. go s at n a h (token_at s at) refl }
  where
    none : {P : Type 0} (p n m a : ℕ) (x : Option (ℕ × ℕ)) → either_of p x m ≡ got a n → P
    none p n m a (Some (q, e)) h = off h
    none p n m a None h = off h

    go : (s : List ℕ) (at n a : ℕ) → ◌>>=◌ (token s) (λ t. on_word t (type_of_word s ts b) (on_open t (type_of_other s) (wrong 13 t))) at ≡ got a n
        → (t : Token) → token_at s at ≡ t → (next_of s at < length s) × (next_of s at < next_of s n)
    go s at n a h (T.Word k p e) q = let r : n ≡ e = held_at (type_of_word s ts b k p e e) (word_held s ts b k p e e) (rw q at h) in
        rw r (word_strict s at k p e q)
    go s at n a h (T.Number z p e) q = off (rw q at h)
    go s at n a h (T.Open p e) q = none p n e a (spot_at s (p + 1) (bytes "either")) (rw q at h)
    go s at n a h (T.Close p e) q = off (rw q at h)
    go s at n a h (T.Mark m p e) q = off (rw q at h)
    go s at n a h (T.Refusal k p) q = off (rw q at h)
    go s at n a h (T.End p) q = off (rw q at h)

group_strict : (own : Bool) (ts t : Table) (g : ℕ) → Strict (λ v. group v own ts t g)
unfolding group
group_strict own ts t g = record { strict = λ s at n u h. go s at n u (type_due s (cond own t ts) (cond own g (length ts)) at) refl h }
  where
    go : (s : List ℕ) (at n : ℕ) (u : Table) (x : Read ℕ) → type_due s (cond own t ts) (cond own g (length ts)) at ≡ x
        → and_then x (λ k. give (retype g k t)) ≡ got u n
        → (next_of s at < length s) × (next_of s at < next_of s n)
    go s at n u (got k m) e h = let q : m ≡ n = cc in rw (← q) ((type_strict (cond own t ts) (cond own g (length ts))).strict s at m k e)
    go s at n u (refused k p) e h = off h

module _ (s : List ℕ) (var own : Bool) (ts : Table) (max : ℕ) where
  typed_step : (j k at : ℕ) → ((t : Table) (g n : ℕ) → Enough s j n → Enough s k n → typed j s var own ts max t g n ≡ typed k s var own ts max t g n)
      → Enough s (suc j) at → Enough s (suc k) at → (t : Table) (g n : ℕ) (i : Item) → Going i ((next_of s at < length s) × (next_of s at < next_of s n))
      → on_item i (give t) (λ p. ◌>>=◌ (waiting t g p) (λ x. ◌>>=◌ (group s own ts t g) (λ u. typed j s var own ts max u (length u))))
      (λ p w. ◌>>=◌ (declare max t p w) (λ u. typed j s var own ts max u g)) n
      ≡ on_item i (give t) (λ p. ◌>>=◌ (waiting t g p) (λ x. ◌>>=◌ (group s own ts t g) (λ u. typed k s var own ts max u (length u))))
      (λ p w. ◌>>=◌ (declare max t p w) (λ u. typed k s var own ts max u g)) n
  typed_step j k at f ej ek t g n closes h = refl
  typed_step j k at f ej ek t g n (dash p) h =
      and_same (waiting t g p n) (λ x m e. and_same (group s own ts t g m) (λ u l d.
      let q : m ≡ n = held_at (waiting t g p n) (waiting_held t g p n) e in
      let r : (next_of s n < length s) × (next_of s n < next_of s l) = (group_strict own ts t g).strict s n l u (rw (← q) d) in
      let b : (next_of s at < length s) × (next_of s at < next_of s l) = omega arith in
      f u (length u) l (fewer ej b) (fewer ek b)))
  typed_step j k at f ej ek t g n (names p w) h =
      and_same (declare max t p w n) (λ u m e.
      let q : m ≡ n = held_at (declare max t p w n) (declare_held max t p w n) e in
      let b : (next_of s at < length s) × (next_of s at < next_of s m) = rw q h in
      f u g m (fewer ej b) (fewer ek b))

  typed_suffices : (j k : ℕ) (t : Table) (g at : ℕ) → Enough s j at → Enough s k at → typed j s var own ts max t g at ≡ typed k s var own ts max t g at
  unfolding typed
  typed_suffices zero k t g at ej ek = absurd (let y : ⊥ = omega arith in y)
  typed_suffices (suc j) zero t g at ej ek = absurd (let y : ⊥ = omega arith in y)
  typed_suffices (suc j) (suc k) t g at ej ek =
      and_same (item s var at) (λ i n e. typed_step j k at (λ t g n a b. typed_suffices j k t g n a b) ej ek t g n i (item_strict s var at n i e))

lists_local : {E : Edge} (var own : Bool) (ts : Table) (max : ℕ) (t : Table) (g : ℕ) → Plain E (λ v. typed (length v + 1) v var own ts max t g)
lists_local var own ts max t g =
    bounded (λ k v. typed k v var own ts max t g) (λ s at j k a b. typed_suffices s var own ts max j k t g at (enough s j at a) (enough s k at b))
    (λ k. typed_local k var own ts max t g)

pub names_local : {E : Edge} (ts : Table) (max : ℕ) (t : Table) → Plain E (λ v. names_to v ts max t)
unfolding names_to
names_local ts max t = lists_local false false ts max t (length t)

pub variables_local : {E : Edge} (ts : Table) (max : ℕ) → Plain E (λ v. variables_to v ts max)
unfolding variables_to
variables_local ts max = lists_local true false ts max [] 0

pub types_local : {E : Edge} → Plain E types_to
unfolding types_to
types_local = lists_local false true [] 17 (entry (bytes "object") (0 ∷ []) ∷ []) 1

-- ---- declarations

declaration_local : {E : Edge} (ts : Table) (max most : ℕ) (t : Table) → Plain E (λ v. declaration v ts max most t)
unfolding declaration
declaration_local ts max most t =
    new_then 13 (λ n e. held (fresh max t n.place n.word) (fresh_held max t n.place n.word)
    (λ i. after (then (variables_local ts most) (λ vs. gives))))

steps_local : {E : Edge} (k : ℕ) (ts : Table) (max most : ℕ) (t : Table) → Plain E (λ v. declarations k v ts max most t)
unfolding declarations
steps_local zero ts max most t = never
steps_local (suc k) ts max most t =
    peek_then (λ n. on_close_lem
    (λ p m. after (then (closing_local 14) (λ i. gives {a = t})))
    (λ x. after (then (opening_local 14) (λ i. then (declaration_local ts max most t) (λ u. steps_local k ts max most u)))))

declaration_strict : (ts : Table) (max most : ℕ) (t : Table) → Strict (λ v. ◌>>=◌ (opening v 14) (λ i. declaration v ts max most t))
declaration_strict ts max most t = opens_strict 14 (λ v i. declaration v ts max most t) (λ s q i. declaration_local ts max most t)

declarations_suffice : (s : List ℕ) (ts : Table) (max most j k : ℕ) (t : Table) (at : ℕ) → Enough s j at → Enough s k at
    → declarations j s ts max most t at ≡ declarations k s ts max most t at
unfolding declarations
declarations_suffice s ts max most zero k t at ej ek = absurd (let y : ⊥ = omega arith in y)
declarations_suffice s ts max most (suc j) zero t at ej ek = absurd (let y : ⊥ = omega arith in y)
declarations_suffice s ts max most (suc j) (suc k) t at ej ek =
    close_same (token_at s at) _ _ _ at (and_same (opening s 14 at) (λ p e h. and_same (declaration s ts max most t e) (λ u n i.
    let b : (next_of s at < length s) × (next_of s at < next_of s n) = (declaration_strict ts max most t).strict s at n u (rw h i) in
    declarations_suffice s ts max most j k u n (fewer ej b) (fewer ek b))))

pub declarations_local : {E : Edge} (ts : Table) (max most : ℕ) → Plain E (λ v. declarations (length v + 1) v ts max most [])
declarations_local ts max most =
    bounded (λ k v. declarations k v ts max most []) (λ s at j k a b. declarations_suffice s ts max most j k [] at (enough s j at a)
    (enough s k at b)) (λ k. steps_local k ts max most [])
