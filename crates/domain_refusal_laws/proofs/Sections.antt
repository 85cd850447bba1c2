-- Sections: a section is known by the word after its bracket, and so is what may stand in its place. Assumes nothing.
use mathlib.Core.Path.{◌≡◌, refl, sym, ◌∙◌}
use mathlib.Core.List.{List}
use mathlib.Core.Bool.{Bool, true, false, cond}
use Prim.Native.Nat.{ℕ, ◌+◌, ◌≤◌}
use Prim.Native.String.{String}
use native.Mathlib.Nat.{le_refl}
use native.Mathlib.Omega.{arith}
use native.Mathlib.Decide.{dec_le}
use Rattle.text_words.specs.Bytes.{bytes}
use Rattle.text_words.specs.Spelling.{same_word}
use Rattle.text_tokens.specs.Runs.{part}
use Rattle.text_tokens.specs.Tokens.{token_at}
use Rattle.text_tokens.specs.declared.tokens.Word.{Word}
use Rattle.text_tokens.specs.declared.tokens.Token.{Token}
use Rattle.text_tokens.specs.declared.tokens.Token.TheVariants as T
use Rattle.domain_meaning.specs.Read.{◌>>=◌, and_then, Reader, got}
use Rattle.domain_meaning.specs.Due.{token, place_of, after_of, on_open}
use Rattle.domain_meaning.specs.Domain.{Opened, opened, other, section_word, behind_open, begins_with, section}
use Rattle.domain_refusal_laws.specs.Lowest.{seen}
use Rattle.domain_refusal_laws.proofs.Sight.{seen_later}
use Rattle.domain_refusal_laws.proofs.Nearness.{Fits, token_fits, token_ends, next_on}
use Rattle.domain_refusal_laws.proofs.Local.{Edge, next, Agrees, agrees_self, Good, far, beyond, widen, Over, Local, gives, Told, Behind, look}
use Rattle.domain_refusal_laws.proofs.Local.{token_then, after}

-- what is looked at first where a section may stand: the word after a bracket, or what stands in the bracket's place
abbrev pub word : Edge → ℕ → ℕ
word E n = on_open (token_at E.text n) (λ p. next E (p + 1)) (next E n)

data Way (E : Edge) (at : ℕ) : Type 0 where
  opens : (p n : ℕ) → token_at E.text at ≡ T.Open p n → Way E at
  plain : word E at ≡ next E at → Way E at

way : (E : Edge) (at : ℕ) → Way E at
way E at = go (token_at E.text at) refl
  where
    go : (t : Token) → token_at E.text at ≡ t → Way E at
    go (T.Word k p n) e = plain (rw e)
    go (T.Number z p n) e = plain (rw e)
    go (T.Open p n) e = opens p n e
    go (T.Close p n) e = plain (rw e)
    go (T.Mark m p n) e = plain (rw e)
    go (T.Refusal k p) e = plain (rw e)
    go (T.End p) e = plain (rw e)

word_later : (E : Edge) (at : ℕ) → next E at ≤ word E at
word_later E at = go (way E at)
  where
    go : Way E at → next E at ≤ word E at
    go (opens p n e) = let h : next E at ≤ next E (p + 1) = next_on E.text at (p + 1) (rw e (omega arith)) in rw e (rw e at h)
    go (plain e) = rw e (le_refl (next E at))

pub wide : {A : Type 0} {E : Edge} {fl : ℕ → ℕ} {m : List ℕ → Reader A} → Local E fl (Over E (next E)) m → Local E fl (Over E (word E)) m
wide {E = E} {fl = fl} {m = m} h =
    record {
      good = λ u a at. widen (fl at) (m E.text at) (m u at)
          (λ n o. record { past = omega (arith, o.past, seen_later E.text (next E n) (word E n) (word_later E n)) }) (h.good u a at);
    }

-- one that begins where a section may stand
abbrev pub Section : {A : Type 0} (E : Edge) (m : List ℕ → Reader A) → Type 0
Section E m = Local E (word E) (Over E (word E)) m

-- ---- a section that may stand here

module _ {A : Type 0} {E : Edge} {F : ℕ → Type 0} (w : List ℕ) (g : List ℕ → Opened → Reader A)
    (y : (k : Word) (p e : ℕ) → Behind E (T.Word k p e) e F (λ v. g v (opened p))) (o : Local E (word E) F (λ v. g v other)) where
  none : (at : ℕ) (t : Token) → place_of t ≡ word E at → Behind E t (after_of t) F (λ v n. g v other at)
  none at t e = record { good = λ u r. rw e (o.good u r.agrees at) }

  found : (at : ℕ) (t : Token) → place_of t ≡ word E at → Behind E t (after_of t) F (λ v n. and_then (section_word v at w t) (g v))
  found at (T.Word k p e) h = record { good = λ u r. rw (← r.whole) (go (same_word (part E.text p e) w) u r) }
    where
      go : (b : Bool) (u : List ℕ) → Told E u (T.Word k p e) e
          → Good E p F (and_then (cond b (got (opened p) e) (got other at)) (g E.text)) (and_then (cond b (got (opened p) e) (got other at)) (g u))
      go true u r = (y k p e).good u r
      go false u r = (none at (T.Word k p e) h).good u r
  found at (T.Number z p e) h = none at (T.Number z p e) h
  found at (T.Open p n) h = none at (T.Open p n) h
  found at (T.Close p n) h = none at (T.Close p n) h
  found at (T.Mark m p n) h = none at (T.Mark m p n) h
  found at (T.Refusal k p) h = none at (T.Refusal k p) h
  found at (T.End p) h = none at (T.End p) h

  behind_open_lem : (u : List ℕ) → Agrees E u → (at : ℕ) (t : Token) → token_at E.text at ≡ t
      → Good E (word E at) F (and_then (behind_open E.text at w t) (g E.text)) (and_then (behind_open u at w t) (g u))
  behind_open_lem u a at (T.Word k p e) h = o.good u a at
  behind_open_lem u a at (T.Number z p e) h = o.good u a at
  behind_open_lem u a at (T.Open p n) h =
      let q : word E at ≡ next E (p + 1) = rw h in
      rw q (look u a (p + 1) after_of (next_on E.text (p + 1) _ (token_ends E.text _ (token_fits E.text (p + 1))).0)
      (λ v t n. and_then (section_word v at w t) (g v)) (λ t e. found at t (rw (q, e))))
  behind_open_lem u a at (T.Close p n) h = o.good u a at
  behind_open_lem u a at (T.Mark m p n) h = o.good u a at
  behind_open_lem u a at (T.Refusal k p) h = o.good u a at
  behind_open_lem u a at (T.End p) h = o.good u a at

  pub begins_then : Local E (word E) F (λ v. ◌>>=◌ (begins_with v w) (g v))
  unfolding begins_with
  begins_then = record { good = λ u a at. go u a at (dec_le (seen E.text (word E at)) E.edge) }
    where
      go : (u : List ℕ) → Agrees E u → (at : ℕ) → Dec (seen E.text (word E at) ≤ E.edge)
          → Good E (word E at) F (and_then (behind_open E.text at w (token_at E.text at)) (g E.text)) (and_then (behind_open u at w (token_at u at)) (g u))
      go u a at (yes i) =
          rw (← (a.same at (omega (arith, seen_later E.text (next E at) (word E at) (word_later E at)))).token)
          (behind_open_lem u a at (token_at E.text at) refl)
      go u a at (no i) = far (beyond {f = word E at} _ _ (omega arith) (behind_open_lem E.text (agrees_self E) at (token_at E.text at) refl))

pub section_local : {A : Type 0} {E : Edge} (w : String) (none : A) {m : List ℕ → Reader A} → Local E (next E) (Over E (word E)) m
    → Section E (λ v. section v w none (m v))
section_local w none h = begins_then (bytes w) _ (λ k p e. after h) gives

-- ---- a bracket that opens a section, and what stands after it

module _ {A : Type 0} {E : Edge} {F : ℕ → Type 0} {g : List ℕ → Token → Reader A}
    (y : (p n : ℕ) → Local E (next E) F (λ v. g v (T.Open p n))) (o : (t : Token) → Behind E t (after_of t) F (λ v. g v t)) where
  pub second_then : Local E (word E) F (λ v. ◌>>=◌ (token v) (g v))
  unfolding Fits
  second_then = record { good = λ u a at. go u a at (way E at) }
    where
      behind : (at p n : ℕ) → token_at E.text at ≡ T.Open p n → n ≡ p + 1
      behind at p n e = (rw e at (token_fits E.text at)).0

      here : (u : List ℕ) → Agrees E u → (at p n : ℕ) → token_at E.text at ≡ T.Open p n
          → Good E (word E at) F (g E.text (T.Open p n) n) (g u (T.Open p n) n)
      here u a at p n e = let q : word E at ≡ next E n = rw (e, behind at p n e) in rw q ((y p n).good u a n)

      bracket : (u : List ℕ) → Agrees E u → (at p n : ℕ) → token_at E.text at ≡ T.Open p n → Dec (seen E.text (word E at) ≤ E.edge)
          → Good E (word E at) F (◌>>=◌ (token E.text) (g E.text) at) (◌>>=◌ (token u) (g u) at)
      bracket u a at p n e (yes i) =
          let q : token_at u at ≡ T.Open p n = sym (a.same at (omega (arith, seen_later E.text (next E at) (word E at) (word_later E at)))).token ∙ e in
          let h : Good E (word E at) F (g E.text (T.Open p n) n) (g u (T.Open p n) n) = here u a at p n e in
          rw (e, q) (rw e at h)
      bracket u a at p n e (no i) =
          let h : Good E (word E at) F (g E.text (T.Open p n) n) (g E.text (T.Open p n) n) = here E.text (agrees_self E) at p n e in
          far (rw e (beyond {f = word E at} _ _ (omega arith) h))

      go : (u : List ℕ) → Agrees E u → (at : ℕ) → Way E at → Good E (word E at) F (◌>>=◌ (token E.text) (g E.text) at) (◌>>=◌ (token u) (g u) at)
      go u a at (opens p n e) = bracket u a at p n e (dec_le (seen E.text (word E at)) E.edge)
      go u a at (plain e) = rw e ((token_then o).good u a at)
