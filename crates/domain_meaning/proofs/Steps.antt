-- What is due takes a byte at least, and a name has at most 32; what is looked up takes none. Assumes nothing.
use Rattle.std.specs.Prelude.{None, Option, Some}
use mathlib.Core.Path.{◌≡◌, refl}
use mathlib.Core.List.{List}
use mathlib.Core.Bool.{Bool, true, false, cond, ◌&&◌}
use Prim.Native.Nat.{ℕ, zero, suc, ◌+◌, ◌-◌, ◌≤◌, ◌<◌}
use native.Mathlib.Omega.{arith}
use lib.Dec.{eqb, ltb}
use lib.ListN.{length}
use borrow.Author.Tests.{ltb-true}
use Rattle.text_words.specs.Bytes.{bytes}
use Rattle.text_words.specs.Spelling.{same_word}
use Rattle.text_words.specs.Fixed.{is_reserved}
use Rattle.text_tokens.specs.Runs.{part}
use Rattle.text_tokens.specs.Tokens.{token_at, spot_at}
use Rattle.text_tokens.specs.declared.tokens.Token.{Token}
use Rattle.text_tokens.specs.declared.tokens.Token.TheVariants as T
use Rattle.text_tokens.specs.declared.tokens.Word.{Word}
use Rattle.text_tokens.specs.declared.tokens.Word.TheVariants as W
use Rattle.text_tokens.proofs.Within.{Sized, Within, token_in, part_length, spot_within}
use Rattle.domain_meaning.specs.Read.{Reader, got, give, refuse, and_then}
use Rattle.domain_meaning.specs.Tables.{Table, lookup, on_found, fresh}
use Rattle.domain_meaning.specs.Due.{after_of, on_word, opening, closing, word_due, is_name_word, Name, any_name, new_name}
use Rattle.domain_meaning.specs.Terms.{counted}
use Rattle.domain_meaning.specs.Actions.{time_of, rule_head, duration_spot, field_of}
use Rattle.domain_meaning.specs.Domain.{opened, other, section_word, behind_open, begins_with}
use Rattle.domain_meaning.proofs.Given.{Given, Any, Fits, Ahead, reads, fits, stops, given_then, word_gives, open_gives, close_gives, either_gives}

-- ---- a token is due

-- from `at` on a token was read, up to n
pub record Past (s : List ℕ) (at n : ℕ) : Type 0 where
  pub past : at < n
  pub within : n ≤ length s

-- a name: the part of the text from its place on
pub record Spelt (s : List ℕ) (at : ℕ) (w : Name) (n : ℕ) : Type 0 where
  pub is : w.word ≡ part s w.place n
  pub good : length w.word ≤ 32
  pub starts : w.place ≤ n
  pub past : at < n
  pub within : n ≤ length s

module _ (s : List ℕ) (d at : ℕ) where
  pub opening_fits : Given (λ _ n. Past s at n) Any (opening s d at)
  unfolding opening
  opening_fits = open_gives s at _ _ (λ p e h i. either_gives (eqb d 0) _ _ e stops (reads (record { past = h; within = i }))) stops

  pub closing_fits : Given (λ _ n. Past s at n) Any (closing s d at)
  unfolding closing
  closing_fits = close_gives s at _ _ (λ p e h i. reads (record { past = h; within = i })) stops

  pub word_due_fits : (w : List ℕ) → Given (λ _ n. Past s at n) Any (word_due s d w at)
  unfolding word_due
  word_due_fits w = word_gives s at _ _ (λ k p e l h i z. either_gives (same_word (part s p e) w) _ _ e (reads (record { past = h; within = i })) stops) stops

  pub any_name_fits : Given (Spelt s at) Any (any_name s d at)
  unfolding any_name
  any_name_fits = word_gives s at _ _ (λ k p e l h i z. go k p e l h i z) stops
    where
      go : (k : Word) (p e : ℕ) → p < e → at < e → e ≤ length s → Sized k (e - p)
          → Given (Spelt s at) Any (cond (is_name_word k) (give (record { place = p; word = part s p e })) (refuse 3 p) e)
      go W.Name p e l h i z =
          reads {n = e} (record {
            is = refl;
            good = let y : length (part s p e) ≤ 32 = omega (arith, z, part_length s p e i) in y;
            starts =
                omega arith;
            past = h;
            within = i;
          })
      go W.Variable p e l h i z = stops
      go W.Keyword p e l h i z = stops
      go W.Operator p e l h i z = stops

  pub new_name_fits : Given (Spelt s at) Any (new_name s d at)
  unfolding new_name
  new_name_fits = given_then _ any_name_fits (λ n i h. either_gives (is_reserved n.word) _ _ i stops (reads h))

-- ---- nothing is read

-- a name more, for which there is room
pub fresh_fits : (max : ℕ) (t : Table) (p : ℕ) (w : List ℕ) (at : ℕ) → Fits (λ _. length t < max) (λ _. 0) at 0 (fresh max t p w at)
unfolding fresh
fresh_fits max t p w at = go (lookup t w)
  where
    room : (b : Bool) → ltb (length t) max ≡ b → Fits (λ _. length t < max) (λ _. 0) at 0 (cond b (give p) (refuse 12 p) at)
    room true e = fits (ltb-true (length t) max e) (omega arith) (omega arith)
    room false e = stops

    go : (f : Option ℕ) → Fits (λ _. length t < max) (λ _. 0) at 0 (on_found f (λ i. refuse 7 p) (cond (ltb (length t) max) (give p) (refuse 12 p)) at)
    go (Some i) = stops
    go None = room (ltb (length t) max) refl

pub counted_fits : (p n at : ℕ) → Ahead 0 at (counted p n at)
unfolding counted
counted_fits p zero at = stops
counted_fits p (suc n) at = fits {n = at} tt (omega arith) (omega arith)

-- ---- the words of an action and of a section

pub ahead : {A : Type 0} {a : A} (at n : ℕ) → at ≤ n → Ahead 0 at (got a n)
ahead at n h = fits tt h (omega arith)

module _ (s : List ℕ) where
  pub time_ahead : (d : ℕ) (over : Bool) (p e at : ℕ) → Ahead 1 at (time_of s d over p e at)
  unfolding time_of
  time_ahead d over p e at =
      either_gives (same_word (part s p e) (bytes "at")) _ _ at
      (word_gives s at _ _
      (λ k q i y h l z. either_gives (same_word (part s q i) (bytes "start")) _ _ i (fits tt (omega arith) (omega arith))
      (either_gives (same_word (part s q i) (bytes "end")) _ _ i (fits tt (omega arith) (omega arith)) stops))
      stops)
      (either_gives (over && same_word (part s p e) (bytes "over")) _ _ at
      (given_then _ (word_due_fits s d at (bytes "all")) (λ q i h. fits tt (omega arith) (omega arith))) stops)

  -- the head of a duration rule, and `?duration`
  pub rule_ahead : {A : Type 0} {P : A → ℕ → Type 0} (at : ℕ) (f : ℕ → Reader A) → ((p n : ℕ) → at < n → Given P Any (f p n))
      → Given P Any (and_then (rule_head s (token_at s at) (after_of (token_at s at))) (λ _ i. and_then (duration_spot s (spot_at s i (bytes "?duration")) i) f))
  unfolding Within
  rule_ahead {A} {P} at f r = go (token_at s at) (token_in s at)
    where
      spot : (i : ℕ) → at < i → i ≤ length s → (x : Option (ℕ × ℕ)) → spot_at s i (bytes "?duration") ≡ x → Given P Any (and_then (duration_spot s x i) f)
      spot i h l (Some (p, e)) q = r p e (omega (arith, spot_within s i (bytes "?duration") p e l q))
      spot i h l None q = stops

      head : (t : Bool) (p e : ℕ) → at < e → e ≤ length s → Given P Any
          (and_then (cond t (give p) (refuse 11 p) e) (λ _ i. and_then (duration_spot s (spot_at s i (bytes "?duration")) i) f))
      head true p e h l = spot e h l (spot_at s e (bytes "?duration")) refl
      head false p e h l = stops

      refusal : (t : Bool) (k p n : ℕ) → Given P Any (and_then {A = ℕ} (cond t (refuse 11 p) (refuse k p) n)
          (λ _ i. and_then (duration_spot s (spot_at s i (bytes "?duration")) i) f))
      refusal true k p n = stops
      refusal false k p n = stops

      go : (t : Token) → Within s at t → Given P Any (and_then (rule_head s t (after_of t)) (λ _ i. and_then (duration_spot s (spot_at s i (bytes "?duration")) i) f))
      go (T.Word k p e) i = head (same_word (part s p e) (bytes "=")) p e (omega (arith, i.0, i.1)) i.2
      go (T.Number z p e) i = stops
      go (T.Open p e) i = stops
      go (T.Close p e) i = stops
      go (T.Mark x p e) i = stops
      go (T.Refusal k p) i = refusal (eqb k 5) k p p
      go (T.End p) i = stops

  -- a field's word takes a byte
  pub field_ahead : (w : List ℕ) (at : ℕ) → Fits (λ _. Unit {0}) (λ b. cond b 1 0) at 0 (field_of s w at)
  unfolding field_of Within
  field_ahead w at = go (token_at s at) refl (token_in s at)
    where
      none : Fits (λ _. Unit {0}) (λ b. cond b 1 0) at 0 (got false at)
      none = fits tt (omega arith) (omega arith)

      one : (t : Bool) → at < after_of (token_at s at) → Fits (λ _. Unit {0}) (λ b. cond b 1 0) at 0
          (cond t (λ n. got true (after_of (token_at s n))) (give false) at)
      one true h = fits {a = true} {n = after_of (token_at s at)} tt (omega arith) (omega arith)
      one false h = none

      go : (t : Token) → token_at s at ≡ t → Within s at t
          → Fits (λ _. Unit {0}) (λ b. cond b 1 0) at 0 (on_word t
          (λ k p e. cond (same_word (part s p e) w) (λ n. got true (after_of (token_at s n))) (give false)) (give false) at)
      go (T.Word k p e) q i = one (same_word (part s p e) w) (rw q (let z : at < e = omega (arith, i.0, i.1) in z))
      go (T.Number z p e) q i = none
      go (T.Open p e) q i = none
      go (T.Close p e) q i = none
      go (T.Mark x p e) q i = none
      go (T.Refusal k p) q i = none
      go (T.End p) q i = none

  -- a section's word
  pub begins_ahead : (w : List ℕ) (at : ℕ) → Ahead 0 at (begins_with s w at)
  unfolding begins_with Within
  begins_ahead w at = go (token_at s at) (token_in s at)
    where
      none : Ahead 0 at (got other at)
      none = ahead at at (omega arith)

      one : (t : Bool) (p e : ℕ) → at < e → Ahead 0 at (cond t (got (opened p) e) (got other at))
      one true p e h = ahead at e (omega arith)
      one false p e h = none

      word : (q : ℕ) → at ≤ q → (t : Token) → Within s (q + 1) t → Ahead 0 at (section_word s at w t)
      word q l (T.Word k p e) i = one (same_word (part s p e) w) p e (omega (arith, i.0, i.1))
      word q l (T.Number z p e) i = none
      word q l (T.Open p e) i = none
      word q l (T.Close p e) i = none
      word q l (T.Mark x p e) i = none
      word q l (T.Refusal k p) i = none
      word q l (T.End p) i = none

      go : (t : Token) → Within s at t → Ahead 0 at (behind_open s at w t)
      go (T.Open p e) i = word p i.0 (token_at s (p + 1)) (token_in s (p + 1))
      go (T.Word k p e) i = none
      go (T.Number z p e) i = none
      go (T.Close p e) i = none
      go (T.Mark x p e) i = none
      go (T.Refusal k p) i = none
      go (T.End p) i = none
