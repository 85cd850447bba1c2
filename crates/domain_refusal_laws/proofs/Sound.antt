-- Sound readers: what is read goes on within the text, and what is refused is listed. How such readers are put together. Assumes nothing.
use Rattle.std.specs.Prelude.{None, Option, Some}
use mathlib.Core.Path.{◌≡◌, refl}
use mathlib.Core.List.{List}
use mathlib.Core.Bool.{Bool, true, false, cond, ◌&&◌}
use Prim.Native.Nat.{ℕ, ◌+◌, ◌≤◌, ◌<◌}
use native.Mathlib.Omega.{arith}
use lib.IntN.{ℤ}
use lib.Dec.{eqb, leb}
use lib.ListN.{length}
use borrow.Author.Tests.{leb-true}
use Rattle.text_tokens.specs.Tokens.{token_at}
use Rattle.text_tokens.specs.declared.tokens.Word.{Word}
use Rattle.text_tokens.specs.declared.tokens.Token.{Token}
use Rattle.text_tokens.specs.declared.tokens.Token.TheVariants as T
use Rattle.text_tokens.proofs.Within.{Within, token_within}
use Rattle.domain_meaning.specs.Read.{◌>>=◌, and_then, Read, Reader, got, refused, give, refuse}
use Rattle.domain_meaning.specs.Tables.{on_found}
use Rattle.domain_meaning.specs.Due.{token, peek, wrong, after_of, place_of, on_word, on_number, on_open, on_close, on_refusal}
use Rattle.domain_refusal_laws.specs.Listed.{Listed}
use Rattle.domain_refusal_laws.proofs.Nearness.{Fits, token_fits, token_stands}

-- a place at which something can be refused
pub record Stands (s : List ℕ) (p : ℕ) : Type 0 where
  pub inside : p ≤ length s
  pub low : p ≤ 32768

-- 1 and 13 have rows of their own
abbrev pub usual : ℕ → Bool
usual k = leb 2 k && leb k 12

-- what is read has Q, and reading goes on at lo or later; a refusal's number is at most 12 and x
pub data Ends {A : Type 0} (s : List ℕ) (x lo : ℕ) (Q : A → Type 0) : Read A → Type 0 where
  reads : {a : A} {n : ℕ} → lo ≤ n → n ≤ length s → Q a → Ends s x lo Q (got a n)
  stops : {k p : ℕ} → Listed (12 + x) (length s) k p → Ends s x lo Q (refused k p)

pub listed : {A : Type 0} {s : List ℕ} {x lo k p : ℕ} {Q : A → Type 0} → usual k ≡ true → Stands s p → Ends s x lo Q (refused k p)
listed {s = s} {x = x} {k = k} {p = p} e h = stops (go (leb 2 k) refl (leb k 12) refl e)
  where
    go : (a : Bool) → leb 2 k ≡ a → (b : Bool) → leb k 12 ≡ b → (a && b) ≡ true → Listed (12 + x) (length s) k p
    go true i true j e =
        let l : 2 ≤ k = leb-true 2 k i in
        let m : k ≤ 12 = leb-true k 12 j in
        record { least = omega arith; highest = omega arith; inside = h.inside; low = h.low; long = λ d. absurd (let o : ⊥ = omega arith in o) }
    go true i false j e = let z : ◌≡◌ {A = ℕ} 0 1 = cc in absurd (let o : ⊥ = omega arith in o)
    go false i b j e = let z : ◌≡◌ {A = ℕ} 0 1 = cc in absurd (let o : ⊥ = omega arith in o)

-- at every place from `from` on; b is how many bytes are taken at least
pub record Sound {A : Type 0} (s : List ℕ) (x from b : ℕ) (Q : A → Type 0) (m : Reader A) : Type 0 where
  pub ends : (at : ℕ) → from ≤ at → at ≤ length s → Ends s x (at + b) Q (m at)

-- nothing is said of the value
abbrev pub Any : {A : Type 0} → A → Type 0
Any a = Unit {0}

pub lower : {A : Type 0} {s : List ℕ} {x lo hi : ℕ} {Q : A → Type 0} (r : Read A) → lo ≤ hi → Ends s x hi Q r → Ends s x lo Q r
lower (got a n) h (reads i j q) = reads {n = n} (omega arith) j q
lower (refused k p) h (stops l) = stops l

module _ {A : Type 0} {s : List ℕ} {x from : ℕ} {Q : A → Type 0} where
  pub gives : {a : A} → Q a → Sound s x from 0 Q (give a)
  gives q = record { ends = λ at i j. reads {n = at} (omega arith) j q }

  pub refuses : {b k p : ℕ} → usual k ≡ true → Stands s p → Sound s x from b Q (refuse k p)
  refuses e h = record { ends = λ at i j. listed e h }

  -- past the text's end nothing is read
  pub spent : {b : ℕ} {m : Reader A} → length s < from → Sound s x from b Q m
  spent h = record { ends = λ at i j. absurd (let o : ⊥ = omega arith in o) }

  pub then : {B : Type 0} {b c : ℕ} {R : B → Type 0} {m : Reader A} {f : A → Reader B} → Sound s x from b Q m → ((a : A) → Q a → Sound s x (from + b) c R (f a))
      → Sound s x from b R (◌>>=◌ m f)
  then {B = B} {b = b} {R = R} {m = m} {f = f} h k = record { ends = λ at i j. go at i (m at) (h.ends at i j) }
    where
      go : (at : ℕ) → from ≤ at → (r : Read A) → Ends s x (at + b) Q r → Ends s x (at + b) R (and_then r f)
      go at i (got a n) (reads l m q) = lower (f a n) (omega arith) ((k a q).ends n (omega arith) m)
      go at i (refused k p) (stops l) = stops l

  pub fewer : {b : ℕ} {m : Reader A} → Sound s x from b Q m → Sound s x from 0 Q m
  fewer {m = m} h = record { ends = λ at i j. lower (m at) (omega arith) (h.ends at i j) }

  pub choose : {b : ℕ} {m o : Reader A} (t : Bool) → Sound s x from b Q m → Sound s x from b Q o → Sound s x from b Q (cond t m o)
  choose true h k = h
  choose false h k = k

  pub found : {b : ℕ} {f : ℕ → Reader A} {o : Reader A} (t : Option ℕ) → ((i : ℕ) → Sound s x from b Q (f i)) → Sound s x from b Q o
      → Sound s x from b Q (on_found t f o)
  found (Some i) h k = h i
  found None h k = k

-- ---- tokens

-- a token that was looked for from `at` on
pub record Looked (s : List ℕ) (at : ℕ) (t : Token) : Type 0 where
  pub within : Within s at t
  pub fits : Fits s t
  pub stands : Stands s (place_of t)

pub looked : (s : List ℕ) (at : ℕ) → at ≤ length s → Looked s at (token_at s at)
looked s at h =
    let p = token_stands s at h in
    record { within = token_within s at h; fits = token_fits s at; stands = record { inside = p.0; low = p.1 } }

-- what is done with a token that was read
pub record After {A : Type 0} (s : List ℕ) (x from : ℕ) (Q : A → Type 0) (g : Token → Reader A) : Type 0 where
  pub ends : (at : ℕ) (t : Token) → from ≤ at → Looked s at t → Ends s x (at + 1) Q (g t (after_of t))

module _ {A : Type 0} {s : List ℕ} {x from : ℕ} {Q : A → Type 0} where
  pub token_then : {g : Token → Reader A} → After s x from Q g → Sound s x from 1 Q (◌>>=◌ (token s) g)
  token_then h = record { ends = λ at i j. h.ends at (token_at s at) i (looked s at j) }

  pub follow : {B : Type 0} {c : ℕ} {R : B → Type 0} {g : Token → Reader A} {f : A → Reader B} → After s x from Q g
      → ((a : A) → Q a → Sound s x (from + 1) c R (f a))
      → After s x from R (λ t. ◌>>=◌ (g t) f)
  follow {R = R} {g = g} {f = f} h k = record { ends = λ at t i l. go at i (g t (after_of t)) (h.ends at t i l) }
    where
      go : (at : ℕ) → from ≤ at → (r : Read A) → Ends s x (at + 1) Q r → Ends s x (at + 1) R (and_then r f)
      go at i (got a n) (reads l m q) = lower (f a n) (omega arith) ((k a q).ends n (omega arith) m)
      go at i (refused k p) (stops l) = stops l

  -- a token that may not stand here
  pub wrongs : (d : ℕ) → After s x from Q (λ t. wrong d t)
  unfolding Fits
  wrongs d = record { ends = λ at t i l. go at t l }
    where
      deep : (b : Bool) → usual (cond b 12 3) ≡ true
      deep true = refl
      deep false = refl

      go : (at : ℕ) (t : Token) → Looked s at t → Ends s x (at + 1) Q (wrong {A = A} d t (after_of t))
      go at (T.Word k p e) l = listed refl l.stands
      go at (T.Number z p e) l = listed refl l.stands
      go at (T.Open p n) l = listed (deep (eqb d 0)) l.stands
      go at (T.Close p n) l = listed refl l.stands
      go at (T.Mark m p n) l = listed refl l.stands
      go at (T.Refusal k p) l =
          stops (record {
            least = l.fits.least;
            highest = omega (arith, l.fits.most);
            inside = l.stands.inside;
            low = l.stands.low;
            long =
                l.fits.long;
          })
      go at (T.End p) l = listed refl l.stands

  -- after a token that ends at e
  step : {c at e : ℕ} (m : Reader A) → Sound s x (from + 1) c Q m → from ≤ at → at < e → e ≤ length s → Ends s x (at + 1) Q (m e)
  step {e = e} m h i j k = lower (m e) (omega arith) (h.ends e (omega arith) k)

  module _ {c : ℕ} {o : Token → Reader A} where
    pub on_word_lem : {f : Word → ℕ → ℕ → Reader A} → ((k : Word) (p e : ℕ) → Stands s p → Sound s x (from + 1) c Q (f k p e)) → After s x from Q o
        → After s x from Q (λ t. on_word t f (o t))
    unfolding Within
    on_word_lem {f} h g = record { ends = go }
      where
        go : (at : ℕ) (t : Token) → from ≤ at → Looked s at t → Ends s x (at + 1) Q (on_word t f (o t) (after_of t))
        go at (T.Word k p e) i l = step (f k p e) (h k p e l.stands) i (omega (arith, l.within)) l.within.2
        go at (T.Number z p e) i l = g.ends at (T.Number z p e) i l
        go at (T.Open p n) i l = g.ends at (T.Open p n) i l
        go at (T.Close p n) i l = g.ends at (T.Close p n) i l
        go at (T.Mark m p n) i l = g.ends at (T.Mark m p n) i l
        go at (T.Refusal k p) i l = g.ends at (T.Refusal k p) i l
        go at (T.End p) i l = g.ends at (T.End p) i l

    pub on_number_lem : {f : ℤ → ℕ → Reader A} → ((z : ℤ) (p : ℕ) → Stands s p → Sound s x (from + 1) c Q (f z p)) → After s x from Q o
        → After s x from Q (λ t. on_number t f (o t))
    unfolding Within
    on_number_lem {f} h g = record { ends = go }
      where
        go : (at : ℕ) (t : Token) → from ≤ at → Looked s at t → Ends s x (at + 1) Q (on_number t f (o t) (after_of t))
        go at (T.Word k p e) i l = g.ends at (T.Word k p e) i l
        go at (T.Number z p e) i l = step (f z p) (h z p l.stands) i (omega (arith, l.within)) l.within.2
        go at (T.Open p n) i l = g.ends at (T.Open p n) i l
        go at (T.Close p n) i l = g.ends at (T.Close p n) i l
        go at (T.Mark m p n) i l = g.ends at (T.Mark m p n) i l
        go at (T.Refusal k p) i l = g.ends at (T.Refusal k p) i l
        go at (T.End p) i l = g.ends at (T.End p) i l

    -- a bracket has a place after it
    pub on_open_lem : {f : ℕ → Reader A} → ((p : ℕ) → Stands s p → p < length s → Sound s x (from + 1) c Q (f p)) → After s x from Q o
        → After s x from Q (λ t. on_open t f (o t))
    unfolding Within
    on_open_lem {f} h g = record { ends = go }
      where
        go : (at : ℕ) (t : Token) → from ≤ at → Looked s at t → Ends s x (at + 1) Q (on_open t f (o t) (after_of t))
        go at (T.Word k p e) i l = g.ends at (T.Word k p e) i l
        go at (T.Number z p e) i l = g.ends at (T.Number z p e) i l
        go at (T.Open p n) i l = step (f p) (h p l.stands (omega (arith, l.within))) i (omega (arith, l.within)) l.within.2
        go at (T.Close p n) i l = g.ends at (T.Close p n) i l
        go at (T.Mark m p n) i l = g.ends at (T.Mark m p n) i l
        go at (T.Refusal k p) i l = g.ends at (T.Refusal k p) i l
        go at (T.End p) i l = g.ends at (T.End p) i l

    pub on_close_lem : {f : ℕ → Reader A} → ((p : ℕ) → Sound s x (from + 1) c Q (f p)) → After s x from Q o → After s x from Q (λ t. on_close t f (o t))
    unfolding Within
    on_close_lem {f} h g = record { ends = go }
      where
        go : (at : ℕ) (t : Token) → from ≤ at → Looked s at t → Ends s x (at + 1) Q (on_close t f (o t) (after_of t))
        go at (T.Word k p e) i l = g.ends at (T.Word k p e) i l
        go at (T.Number z p e) i l = g.ends at (T.Number z p e) i l
        go at (T.Open p n) i l = g.ends at (T.Open p n) i l
        go at (T.Close p n) i l = step (f p) (h p) i (omega (arith, l.within)) l.within.2
        go at (T.Mark m p n) i l = g.ends at (T.Mark m p n) i l
        go at (T.Refusal k p) i l = g.ends at (T.Refusal k p) i l
        go at (T.End p) i l = g.ends at (T.End p) i l

  -- a refusal of its own that is 11 here
  pub on_refusal_lem : (d : ℕ) (b : ℕ → ℕ → Bool) → After s x from Q (λ t. on_refusal t (λ k p. cond (b k p) (refuse 11 p) (refuse k p)) (wrong d t))
  on_refusal_lem d b = record { ends = λ at t i l. go at t i l ((wrongs d).ends at t i l) }
    where
      go : (at : ℕ) (t : Token) → from ≤ at → Looked s at t → Ends s x (at + 1) Q (wrong {A = A} d t (after_of t))
          → Ends s x (at + 1) Q (on_refusal t (λ k p. cond (b k p) (refuse 11 p) (refuse k p)) (wrong d t) (after_of t))
      go at (T.Word k p e) i l w = w
      go at (T.Number z p e) i l w = w
      go at (T.Open p n) i l w = w
      go at (T.Close p n) i l w = w
      go at (T.Mark m p n) i l w = w
      go at (T.Refusal k p) i l w = either (b k p)
        where
          either : (t : Bool) → Ends s x (at + 1) Q (cond t (refuse 11 p) (refuse k p) p)
          either true = listed refl l.stands
          either false = w
      go at (T.End p) i l w = w

  -- ---- a token that is looked at and not read

  pub peek_close : {b : ℕ} {f : ℕ → Reader A} {o : Reader A} → ((p : ℕ) → Stands s p → Sound s x from b Q (f p)) → Sound s x from b Q o
      → Sound s x from b Q (◌>>=◌ (peek s) (λ t. on_close t f o))
  peek_close {b} {f} {o} h g = record { ends = λ at i j. go at i j (token_at s at) (looked s at j).stands }
    where
      go : (at : ℕ) → from ≤ at → at ≤ length s → (t : Token) → Stands s (place_of t) → Ends s x (at + b) Q (on_close t f o at)
      go at i j (T.Word k p e) q = g.ends at i j
      go at i j (T.Number z p e) q = g.ends at i j
      go at i j (T.Open p n) q = g.ends at i j
      go at i j (T.Close p n) q = (h p q).ends at i j
      go at i j (T.Mark m p n) q = g.ends at i j
      go at i j (T.Refusal k p) q = g.ends at i j
      go at i j (T.End p) q = g.ends at i j

  pub peek_word : {b : ℕ} {f o : Reader A} → Sound s x from b Q f → Sound s x from b Q o → Sound s x from b Q (◌>>=◌ (peek s) (λ t. on_word t (λ k p e. f) o))
  peek_word {b} {f} {o} h g = record { ends = λ at i j. go at i j (token_at s at) }
    where
      go : (at : ℕ) → from ≤ at → at ≤ length s → (t : Token) → Ends s x (at + b) Q (on_word t (λ k p e. f) o at)
      go at i j (T.Word k p e) = h.ends at i j
      go at i j (T.Number z p e) = g.ends at i j
      go at i j (T.Open p n) = g.ends at i j
      go at i j (T.Close p n) = g.ends at i j
      go at i j (T.Mark m p n) = g.ends at i j
      go at i j (T.Refusal k p) = g.ends at i j
      go at i j (T.End p) = g.ends at i j
