-- What the next thing of a list is and where it lies, by cases on the token. Assumes nothing.
use Rattle.std.specs.Prelude.{Result, Ok, Err}
use mathlib.Core.Path.{◌≡◌, refl, sym, ◌∙◌, subst}
use mathlib.Core.List.{List, [], ◌∷◌}
use mathlib.Core.Bool.{Bool, true, false, cond}
use Prim.Native.Nat.{ℕ, ◌+◌, ◌-◌, ◌≤◌, ◌<◌}
use native.Mathlib.Omega.{arith}
use lib.ListN.{length}
use types.Run.{OneOf}
use denote.Enum.Declared.{tag_of}
use Rattle.text_words.specs.Bytes.{bytes}
use Rattle.text_words.specs.Spelling.{same_word}
use Rattle.text_words.specs.Fixed.{is_reserved}
use Rattle.text_tokens.specs.Runs.{part}
use Rattle.text_tokens.specs.Tokens.{token_at}
use Rattle.text_tokens.specs.declared.tokens.Token.{Token}
use Rattle.text_tokens.specs.declared.tokens.Token.TheVariants as T
use Rattle.text_tokens.specs.declared.tokens.Word.TheVariants as W
use Rattle.text_tokens.specs.contracts.tokens.Token as token-type
use Rattle.text_tokens.proofs.Within.{Within, token_within, part_length}
use Rattle.domain_meaning.specs.Read.{Read, got, refused, give, refuse}
use Rattle.domain_meaning.specs.Due.{after_of, number_of, place_of, wrong, on_word, on_close}
use Rattle.domain_meaning.specs.Lists.{item_of, item}
use Rattle.domain_meaning.specs.Lists as G
use Rattle.domain_due.specs.declared.Refusal.{Refusal}
use Rattle.domain_due.specs.Answers as A
use Rattle.domain_due.proofs.Dues.{not_word, not_close}
use Rattle.domain_typed_lists.specs.Items.{item_for}
use Rattle.domain_typed_lists.specs.declared.items.Item.{Item}
use Rattle.domain_typed_lists.specs.declared.items.Item.TheVariants.{Close, Dash, Name}

-- what was read of s from `at` on, by what is answered: a name is the part of the text between its places
unfoldable pub Lies : List ℕ → ℕ → Result Item Refusal → Read G.Item → Type 0
Lies s at (Ok (Close n)) x = (x ≡ got G.closes n) × (at < n) × (n ≤ length s)
Lies s at (Ok (Dash p n)) x = (x ≡ got (G.dash p) n) × (at < n) × (n ≤ length s)
Lies s at (Ok (Name p a e)) x = (x ≡ got (G.names p (part s a e)) e) × (at < e) × (e ≤ length s) × (length (part s a e) ≤ 32)
Lies s at (Err why) x = x ≡ refused why.0 why.1

module _ (s : List ℕ) (at p e : ℕ) (lo : at ≤ p) (mid : p < e) (hi : e ≤ length s) where
  name_lies : (b : Bool) → e - p ≤ 32 → Lies s at (item_for false (cond b (refuse 3 p) (give (G.names p (part s p e))) e))
      (cond b (refuse 3 p) (give (G.names p (part s p e))) e)
  unfolding Lies
  name_lies true h = refl
  name_lies false h = (refl, omega arith, hi, let z : length (part s p e) ≤ 32 = omega (arith, part_length s p e hi) in z)

  dash_lies : (var b : Bool) → Lies s at (item_for var (cond b (give (G.dash p)) (refuse 3 p) e)) (cond b (give (G.dash p)) (refuse 3 p) e)
  unfolding Lies
  dash_lies var true = (refl, omega arith, hi)
  dash_lies var false = refl

token_lies : (s : List ℕ) (at : ℕ) (var : Bool) (t : Token) → Within s at t
    → Lies s at (item_for var (on_close t (λ p. give G.closes) (on_word t (item_of s var) (wrong 13 t)) (after_of t)))
    (on_close t (λ p. give G.closes) (on_word t (item_of s var) (wrong 13 t)) (after_of t))
unfolding Lies Within
token_lies s at true (T.Word W.Name p e) w = refl
token_lies s at false (T.Word W.Name p e) w = name_lies s at p e w.0 w.1 w.2 (is_reserved (part s p e)) w.3
token_lies s at true (T.Word W.Variable p e) w = (
  refl,
  omega arith,
  w.2,
  let z : length (part s (p + 1) e) ≤ 32 =
      omega (arith, part_length s (p + 1) e w.2) in z,
)
token_lies s at false (T.Word W.Variable p e) w = refl
token_lies s at var (T.Word W.Keyword p e) w = refl
token_lies s at var (T.Word W.Operator p e) w = dash_lies s at p e w.0 w.1 w.2 var (same_word (part s p e) (bytes "-"))
token_lies s at var (T.Number z p e) w = refl
token_lies s at var (T.Open p n) w = refl
token_lies s at var (T.Close p n) w = (refl, omega arith, w.2)
token_lies s at var (T.Mark m p n) w = refl
token_lies s at var (T.Refusal k p) w = refl
token_lies s at var (T.End p) w = refl

item_lies : (s : List ℕ) (var : Bool) (at : ℕ) → at ≤ length s → Lies s at (item_for var (item s var at)) (item s var at)
unfolding item
item_lies s var at h = token_lies s at var (token_at s at) (token_within s at h)

module _ (s : List ℕ) (var : Bool) (at : ℕ) (h : at ≤ length s) (r : Result Item Refusal) (q : r ≡ item_for var (item s var at)) where
  lies_as : (i : Result Item Refusal) → r ≡ i → Lies s at i (item s var at)
  lies_as i e = subst (λ (x : Result Item Refusal). Lies s at x (item s var at)) (sym q ∙ e) (item_lies s var at h)

  pub item_close : (n : ℕ) → r ≡ Ok (Close n) → (item s var at ≡ got G.closes n) × (at < n) × (n ≤ length s)
  unfolding Lies
  item_close n e = lies_as (Ok (Close n)) e

  pub item_dash : (p n : ℕ) → r ≡ Ok (Dash p n) → (item s var at ≡ got (G.dash p) n) × (at < n) × (n ≤ length s)
  unfolding Lies
  item_dash p n e = lies_as (Ok (Dash p n)) e

  pub item_name : (p a e : ℕ) → r ≡ Ok (Name p a e) → (item s var at ≡ got (G.names p (part s a e)) e) × (at < e) × (e ≤ length s) × (length (part s a e) ≤ 32)
  unfolding Lies
  item_name p a e d = lies_as (Ok (Name p a e)) d

  pub item_refused : (k p : ℕ) → r ≡ Err (A.at k p) → item s var at ≡ refused k p
  unfolding Lies
  item_refused k p e = lies_as (Err (A.at k p)) e

-- a token that is no bracket that closes and no word is refused
pub item_else : (s : List ℕ) (var : Bool) (at : ℕ) (t : Token) (r : Refusal) → t ≡ token_at s at
    → OneOf (0 ∷ 1 ∷ 2 ∷ 4 ∷ 5 ∷ 6 ∷ []) (tag_of token-type.the_type t)
    → OneOf (1 ∷ 2 ∷ 3 ∷ 4 ∷ 5 ∷ 6 ∷ []) (tag_of token-type.the_type t) → r ≡ A.at (number_of 13 t) (place_of t) → Err r ≡ item_for var (item s var at)
unfolding item
item_else s var at t r e o w q = rw (← e, not_close t _ _ o, not_word t _ _ w, q)
