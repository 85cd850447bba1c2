-- What holds of whatever is read and of whatever is refused, by the steps of a reader: one after another, tests, the kinds of a token. Assumes nothing.
use mathlib.Core.Path.{◌≡◌, refl, subst}
use mathlib.Core.List.{List}
use mathlib.Core.Bool.{Bool, true, false, cond}
use Prim.Native.Nat.{ℕ, ◌+◌, ◌-◌, ◌≤◌, ◌<◌}
use native.Mathlib.Nat.{le_trans}
use native.Mathlib.Omega.{arith}
use lib.IntN.{ℤ}
use lib.ListN.{length}
use Rattle.text_words.specs.declared.fixed.HeadWord.{HeadWord}
use Rattle.text_words.specs.declared.fixed.HeadWord.TheVariants as H
use Rattle.text_tokens.specs.Tokens.{token_at}
use Rattle.text_tokens.specs.declared.tokens.Token.{Token}
use Rattle.text_tokens.specs.declared.tokens.Token.TheVariants as T
use Rattle.text_tokens.specs.declared.tokens.Word.{Word}
use Rattle.text_tokens.proofs.Within.{Sized, Within, token_in}
use Rattle.domain_meaning.specs.Read.{Read, Reader, got, refused, and_then}
use Rattle.domain_meaning.specs.Due.{after_of, on_word, on_number, on_open, on_close, on_end}
use Rattle.domain_meaning.specs.Terms.{on_name}
use Rattle.domain_meaning.specs.Domain.{Opened, opened, other, on_opened}

-- P of what is read and the place after it, Q of a refusal's number and place
pub data Given {A : Type 0} (P : A → ℕ → Type 0) (Q : ℕ → ℕ → Type 0) : Read A → Type 0 where
  reads : {a : A} {n : ℕ} → P a n → Given P Q (got a n)
  refuses : {k p : ℕ} → Q k p → Given P Q (refused k p)

module _ {A : Type 0} {P : A → ℕ → Type 0} {Q : ℕ → ℕ → Type 0} where
  of_got : {a : A} {n : ℕ} → Given P Q (got a n) → P a n
  of_got (reads h) = h

  of_refused : {k p : ℕ} → Given P Q (refused k p) → Q k p
  of_refused (refuses h) = h

  pub given_got : {r : Read A} {a : A} {n : ℕ} → Given P Q r → r ≡ got a n → P a n
  given_got g e = of_got (rw e at g)

  pub given_refused : {r : Read A} {k p : ℕ} → Given P Q r → r ≡ refused k p → Q k p
  given_refused g e = of_refused (rw e at g)

  pub given_then : {B : Type 0} {O : B → ℕ → Type 0} {r : Read A} (f : A → Reader B) → Given P Q r → ((a : A) (n : ℕ) → P a n → Given O Q (f a n))
      → Given O Q (and_then r f)
  given_then f (reads h) k = k _ _ h
  given_then f (refuses h) k = refuses h

  pub given_either : (t : Bool) (f g : Reader A) (n : ℕ) → (t ≡ true → Given P Q (f n)) → (t ≡ false → Given P Q (g n)) → Given P Q (cond t f g n)
  given_either true f g n h o = h refl
  given_either false f g n h o = o refl

-- R holds of the token
module _ {A : Type 0} {P : A → ℕ → Type 0} {Q : ℕ → ℕ → Type 0} (R : Token → Type 0) where
  pub given_word : (t : Token) (f : Word → ℕ → ℕ → Reader A) (g : Reader A) (n : ℕ) → R t
      → ((k : Word) (p e : ℕ) → R (T.Word k p e) → Given P Q (f k p e n)) → Given P Q (g n) → Given P Q (on_word t f g n)
  given_word (T.Word k p e) f g n r h o = h k p e r
  given_word (T.Number z p e) f g n r h o = o
  given_word (T.Open p e) f g n r h o = o
  given_word (T.Close p e) f g n r h o = o
  given_word (T.Mark b p e) f g n r h o = o
  given_word (T.Refusal k p) f g n r h o = o
  given_word (T.End p) f g n r h o = o

  pub given_number : (t : Token) (f : ℤ → ℕ → Reader A) (g : Reader A) (n : ℕ) → R t → ((z : ℤ) (p e : ℕ) → R (T.Number z p e) → Given P Q (f z p n))
      → Given P Q (g n) → Given P Q (on_number t f g n)
  given_number (T.Word k p e) f g n r h o = o
  given_number (T.Number z p e) f g n r h o = h z p e r
  given_number (T.Open p e) f g n r h o = o
  given_number (T.Close p e) f g n r h o = o
  given_number (T.Mark b p e) f g n r h o = o
  given_number (T.Refusal k p) f g n r h o = o
  given_number (T.End p) f g n r h o = o

  pub given_open : (t : Token) (f : ℕ → Reader A) (g : Reader A) (n : ℕ) → R t → ((p e : ℕ) → R (T.Open p e) → Given P Q (f p n)) → Given P Q (g n)
      → Given P Q (on_open t f g n)
  given_open (T.Word k p e) f g n r h o = o
  given_open (T.Number z p e) f g n r h o = o
  given_open (T.Open p e) f g n r h o = h p e r
  given_open (T.Close p e) f g n r h o = o
  given_open (T.Mark b p e) f g n r h o = o
  given_open (T.Refusal k p) f g n r h o = o
  given_open (T.End p) f g n r h o = o

  pub given_close : (t : Token) (f : ℕ → Reader A) (g : Reader A) (n : ℕ) → R t → ((p e : ℕ) → R (T.Close p e) → Given P Q (f p n)) → Given P Q (g n)
      → Given P Q (on_close t f g n)
  given_close (T.Word k p e) f g n r h o = o
  given_close (T.Number z p e) f g n r h o = o
  given_close (T.Open p e) f g n r h o = o
  given_close (T.Close p e) f g n r h o = h p e r
  given_close (T.Mark b p e) f g n r h o = o
  given_close (T.Refusal k p) f g n r h o = o
  given_close (T.End p) f g n r h o = o

  pub given_end : (t : Token) (f : ℕ → Reader A) (g : Reader A) (n : ℕ) → R t → ((p : ℕ) → R (T.End p) → Given P Q (f p n)) → Given P Q (g n)
      → Given P Q (on_end t f g n)
  given_end (T.Word k p e) f g n r h o = o
  given_end (T.Number z p e) f g n r h o = o
  given_end (T.Open p e) f g n r h o = o
  given_end (T.Close p e) f g n r h o = o
  given_end (T.Mark b p e) f g n r h o = o
  given_end (T.Refusal k p) f g n r h o = o
  given_end (T.End p) f g n r h o = h p r

-- ---- whatever is refused

abbrev pub Any : ℕ → ℕ → Type 0
Any k p = Unit {0}

-- what is read fulfils P
abbrev pub Gives : {A : Type 0} → (A → Type 0) → Read A → Type 0
Gives P x = Given (λ a n. P a) Any x

-- what is read from `at` on fulfils P, and weighs at most `more` more than bytes were read
pub record Fitting {A : Type 0} (P : A → Type 0) (w : A → ℕ) (at more : ℕ) (a : A) (n : ℕ) : Type 0 where
  pub good : P a
  pub on : at ≤ n
  pub size : w a + at ≤ n + more

abbrev pub Fits : {A : Type 0} → (A → Type 0) → (A → ℕ) → ℕ → ℕ → Read A → Type 0
Fits P w at more x = Given (Fitting P w at more) Any x

-- any value, after so many bytes
abbrev pub Ahead : {A : Type 0} → ℕ → ℕ → Read A → Type 0
Ahead k at x = Fits (λ _. Unit {0}) (λ _. k) at 0 x

pub fits : {A : Type 0} {P : A → Type 0} {w : A → ℕ} {at more : ℕ} {a : A} {n : ℕ} → P a → at ≤ n → w a + at ≤ n + more → Fits P w at more (got a n)
fits g l h = reads (record { good = g; on = l; size = h })

pub stops : {A : Type 0} {P : A → ℕ → Type 0} {k p : ℕ} → Given P Any (refused k p)
stops = refuses tt

-- the same reading, weighed in another way or from an earlier place
pub fits_also : {A : Type 0} {P : A → Type 0} {w v : A → ℕ} {at more b m : ℕ} {x : Read A} → Fits P w at more x → b ≤ at
    → ((a : A) (n : ℕ) → w a + at ≤ n + more → v a + b ≤ n + m) → Fits P v b m x
fits_also (reads h) l k = fits h.good (le_trans l h.on) (k _ _ h.size)
fits_also (refuses h) l k = stops

-- whatever the first one gives
pub behind : {A B : Type 0} {P : B → ℕ → Type 0} (x : Read A) (f : A → Reader B) → ((a : A) (n : ℕ) → Given P Any (f a n)) → Given P Any (and_then x f)
behind (got a n) f k = k a n
behind (refused i p) f k = stops

-- ---- a token that is looked at, and the other ways to go on

module _ {A : Type 0} {P : A → ℕ → Type 0} {Q : ℕ → ℕ → Type 0} where
  pub given_also : {O : A → ℕ → Type 0} {r : Read A} → Given P Q r → ((a : A) (n : ℕ) → P a n → O a n) → Given O Q r
  given_also (reads h) k = reads (k _ _ h)
  given_also (refuses h) k = refuses h

  pub word_ahead : (t : Token) (f : Word → ℕ → ℕ → Reader A) (g : Reader A) (n : ℕ) → ((k : Word) (p e : ℕ) → Given P Q (f k p e n)) → Given P Q (g n)
      → Given P Q (on_word t f g n)
  word_ahead t f g n h o = given_word (λ _. Unit {0}) t f g n tt (λ k p e _. h k p e) o

  pub close_ahead : (t : Token) (f : ℕ → Reader A) (g : Reader A) (n : ℕ) → ((p : ℕ) → Given P Q (f p n)) → Given P Q (g n) → Given P Q (on_close t f g n)
  close_ahead t f g n h o = given_close (λ _. Unit {0}) t f g n tt (λ p e _. h p) o

  pub name_gives : (w : HeadWord) (a b o : Reader A) (n : ℕ) → Given P Q (a n) → Given P Q (b n) → Given P Q (o n) → Given P Q (on_name w a b o n)
  name_gives H.And a b o n h i j = h
  name_gives H.Not a b o n h i j = i
  name_gives H.Equal a b o n h i j = j
  name_gives H.Less a b o n h i j = j
  name_gives H.AtMost a b o n h i j = j
  name_gives H.More a b o n h i j = j
  name_gives H.AtLeast a b o n h i j = j
  name_gives H.Plus a b o n h i j = j
  name_gives H.Minus a b o n h i j = j
  name_gives H.Assign a b o n h i j = j
  name_gives H.Increase a b o n h i j = j
  name_gives H.Decrease a b o n h i j = j
  name_gives H.Other a b o n h i j = j

  pub opened_gives : (o : Opened) (f : ℕ → Reader A) (g : Reader A) (n : ℕ) → ((p : ℕ) → Given P Q (f p n)) → Given P Q (g n) → Given P Q (on_opened o f g n)
  opened_gives (opened p) f g n h k = h p
  opened_gives other f g n h k = k

  pub either_gives : (t : Bool) (a b : Reader A) (n : ℕ) → Given P Q (a n) → Given P Q (b n) → Given P Q (cond t a b n)
  either_gives true a b n h i = h
  either_gives false a b n h i = i

-- ---- a token that is read at a place of s

abbrev Here : List ℕ → ℕ → Token → Type 0
Here s at t = Within s at t × (after_of t ≡ after_of (token_at s at)) × (token_at s at ≡ t)

here : (s : List ℕ) (at : ℕ) → Here s at (token_at s at)
here s at = (token_in s at, refl, refl)

module _ {A : Type 0} {P : A → ℕ → Type 0} {Q : ℕ → ℕ → Type 0} (s : List ℕ) (at : ℕ) where
  pub word_gives : (f : Word → ℕ → ℕ → Reader A) (g : Reader A)
      → ((k : Word) (p e : ℕ) → p < e → at < e → e ≤ length s → Sized k (e - p) → Given P Q (f k p e e))
      → Given P Q (g (after_of (token_at s at))) → Given P Q (on_word (token_at s at) f g (after_of (token_at s at)))
  unfolding Within
  word_gives f g h o =
      given_word (Here s at) (token_at s at) f g (after_of (token_at s at)) (here s at)
      (λ k p e r. subst (λ (n : ℕ). Given P Q (f k p e n)) r.1 (h k p e r.0.1 (omega (arith, r.0.0, r.0.1)) r.0.2 r.0.3)) o

  pub number_gives : (f : ℤ → ℕ → Reader A) (g : Reader A) → ((z : ℤ) (p e : ℕ) → token_at s at ≡ T.Number z p e → Given P Q (f z p e))
      → Given P Q (g (after_of (token_at s at))) → Given P Q (on_number (token_at s at) f g (after_of (token_at s at)))
  number_gives f g h o =
      given_number (Here s at) (token_at s at) f g (after_of (token_at s at)) (here s at)
      (λ z p e r. subst (λ (n : ℕ). Given P Q (f z p n)) r.1 (h z p e r.2)) o

  pub open_gives : (f : ℕ → Reader A) (g : Reader A) → ((p e : ℕ) → at < e → e ≤ length s → Given P Q (f p e))
      → Given P Q (g (after_of (token_at s at))) → Given P Q (on_open (token_at s at) f g (after_of (token_at s at)))
  unfolding Within
  open_gives f g h o =
      given_open (Here s at) (token_at s at) f g (after_of (token_at s at)) (here s at)
      (λ p e r. subst (λ (n : ℕ). Given P Q (f p n)) r.1 (h p e (omega (arith, r.0.0, r.0.1)) r.0.2)) o

  pub close_gives : (f : ℕ → Reader A) (g : Reader A) → ((p e : ℕ) → at < e → e ≤ length s → Given P Q (f p e))
      → Given P Q (g (after_of (token_at s at))) → Given P Q (on_close (token_at s at) f g (after_of (token_at s at)))
  unfolding Within
  close_gives f g h o =
      given_close (Here s at) (token_at s at) f g (after_of (token_at s at)) (here s at)
      (λ p e r. subst (λ (n : ℕ). Given P Q (f p n)) r.1 (h p e (omega (arith, r.0.0, r.0.1)) r.0.2)) o
