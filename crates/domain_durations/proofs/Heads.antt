-- The ways through what stands before a rule's expression. Assumes nothing.
use Rattle.std.specs.Prelude.{None, Some}
use mathlib.Core.Path.{◌≡◌, sym, ap, ◌∙◌}
use mathlib.Core.List.{List, [], ◌∷◌}
use mathlib.Core.Bool.{Bool, true, false, cond}
use Prim.Native.Nat.{ℕ, ◌≤◌, ◌<◌}
use native.Mathlib.Omega.{arith}
use lib.Dec.{eqb}
use lib.ListN.{length}
use types.Run.{OneOf}
use denote.Enum.Declared.{tag_of}
use borrow.Author.Tests.{eq-eqb, ne_eqb}
use Rattle.text_words.specs.Bytes.{bytes}
use Rattle.text_words.specs.Spelling.{same_word}
use Rattle.text_tokens.specs.Runs.{part}
use Rattle.text_tokens.specs.Tokens.{token_at, spot_at}
use Rattle.text_tokens.specs.declared.tokens.Token.{Token}
use Rattle.text_tokens.specs.declared.tokens.Token.TheVariants as T
use Rattle.text_tokens.specs.declared.tokens.Word.{Word}
use Rattle.text_tokens.specs.contracts.tokens.Token as token-type
use Rattle.text_tokens.proofs.Within.{Within, token_within}
use Rattle.domain_meaning.specs.Read.{Read, refused, give, refuse}
use Rattle.domain_meaning.specs.Due.{after_of, number_of, place_of, opening}
use Rattle.domain_meaning.specs.Actions.{rule_head}
use Rattle.domain_due.specs.Answers.{answer_of, Ahead}
use Rattle.domain_due.specs.Answers.{Parsed}
use Rattle.domain_due.specs.Answers.{Done, Refused}
use Rattle.domain_due.proofs.Dues.{not_refusal, not_word, never_done, done_parts, answer_done, answer_refused, ahead_refused, ahead_by}
use Rattle.domain_durations.specs.Lasts.{rule_begun}

-- ---- the head word

module _ (s : List ℕ) (t : Token) where
  pub head_long : (k p : ℕ) → t ≡ T.Refusal k p → k ≡ 5 → Refused 11 p ≡ answer_of (rule_head s t (after_of t))
  head_long k p e h = rw (e, eq-eqb k 5 h)

  pub head_refused : (k p : ℕ) → t ≡ T.Refusal k p → (k ≡ 5 → ⊥) → Refused k p ≡ answer_of (rule_head s t (after_of t))
  head_refused k p e h = rw (e, ne_eqb k 5 h)

  pub head_else : (r : Parsed) → OneOf (0 ∷ 1 ∷ 2 ∷ 3 ∷ 4 ∷ 6 ∷ []) (tag_of token-type.the_type t)
      → OneOf (1 ∷ 2 ∷ 3 ∷ 4 ∷ 5 ∷ 6 ∷ []) (tag_of token-type.the_type t)
      → r ≡ Refused (number_of 13 t) (place_of t) → r ≡ answer_of (rule_head s t (after_of t))
  head_else r o n q = rw (not_word t _ _ n, not_refusal t _ _ o) q

  pub head_equals : (k : Word) (p e : ℕ) → t ≡ T.Word k p e → same_word (part s p e) (bytes "=") ≡ true → Done e p ≡ answer_of (rule_head s t (after_of t))
  head_equals k p e q h = rw (q, h)

  pub head_other : (k : Word) (p e : ℕ) → t ≡ T.Word k p e → same_word (part s p e) (bytes "=") ≡ false → Refused 11 p ≡ answer_of (rule_head s t (after_of t))
  head_other k p e q h = rw (q, h)

-- a head word that was read ends within the text
head_end : (s : List ℕ) (at : ℕ) (t : Token) (a v : ℕ) → Within s at t → answer_of (rule_head s t (after_of t)) ≡ Done a v → (at < a) × (a ≤ length s)
unfolding Within
head_end s at (T.Word k p e) a v w h = go (same_word (part s p e) (bytes "=")) h
  where
    go : (t : Bool) → answer_of (cond t (give p) (refuse 11 p) e) ≡ Done a v → (at < a) × (a ≤ length s)
    go true q = let n : e ≡ a = (done_parts e a p v q).0 in (omega (arith, w.0, w.1), omega (arith, w.2))
    go false q = never_done 11 p a v q
head_end s at (T.Number z p e) a v w h = never_done _ _ a v h
head_end s at (T.Open p n) a v w h = never_done _ _ a v h
head_end s at (T.Close p n) a v w h = never_done _ _ a v h
head_end s at (T.Mark m p n) a v w h = never_done _ _ a v h
head_end s at (T.Refusal k p) a v w h = go (eqb k 5) h
  where
    go : (t : Bool) → answer_of (cond t (refuse 11 p) (refuse k p) p) ≡ Done a v → (at < a) × (a ≤ length s)
    go true q = never_done 11 p a v q
    go false q = never_done k p a v q
head_end s at (T.End p) a v w h = never_done _ _ a v h

pub head_ahead : (s : List ℕ) (at a v : ℕ) (r : Parsed) → at ≤ length s → r ≡ answer_of (rule_head s (token_at s at) (after_of (token_at s at))) → r ≡ Done a v
    → (at < a) × (a ≤ length s)
head_ahead s at a v r h e q = head_end s at (token_at s at) a v (token_within s at h) (sym e ∙ q)

-- ---- `(= ?duration`: one thing after the other, of which each was read until one is refused

stops : (s : List ℕ) (at : ℕ) (x : Read ℕ) (r : Parsed) (k p : ℕ) → x ≡ refused k p → r ≡ Refused k p → (r ≡ answer_of x) × Ahead (length s) at r
stops s at x r k p e q = (q ∙ sym (ap answer_of e), ahead_refused _ _ k p r q)

module _ (s : List ℕ) (at : ℕ) (r : Parsed) (q : r ≡ answer_of (opening s 14 at)) where
  pub begun_closed : (k p : ℕ) → r ≡ Refused k p → (r ≡ answer_of (rule_begun s at)) × Ahead (length s) at r
  unfolding rule_begun
  begun_closed k p e = let o = answer_refused (opening s 14 at) k p (sym q ∙ e) in stops s at (rule_begun s at) r k p (rw o) e

  module _ (a v : ℕ) (e : r ≡ Done a v) (r₂ : Parsed) (q₂ : r₂ ≡ answer_of (rule_head s (token_at s a) (after_of (token_at s a)))) where
    pub begun_headless : (k p : ℕ) → r₂ ≡ Refused k p → (r₂ ≡ answer_of (rule_begun s at)) × Ahead (length s) at r₂
    unfolding rule_begun
    begun_headless k p i =
        let o = answer_done (opening s 14 at) a v (sym q ∙ e) in
        let h = answer_refused (rule_head s (token_at s a) (after_of (token_at s a))) k p (sym q₂ ∙ i) in
        stops s at (rule_begun s at) r₂ k p (rw (o, h)) i

    module _ (b w : ℕ) (i : r₂ ≡ Done b w) where
      pub begun_other : (t : Token) (r₃ : Parsed) → spot_at s b (bytes "?duration") ≡ None → t ≡ token_at s b → r₃ ≡ Refused (number_of 13 t) (place_of t)
          → (r₃ ≡ answer_of (rule_begun s at)) × Ahead (length s) at r₃
      unfolding rule_begun
      begun_other t r₃ f g j =
          let o = answer_done (opening s 14 at) a v (sym q ∙ e) in
          let h = answer_done (rule_head s (token_at s a) (after_of (token_at s a))) b w (sym q₂ ∙ i) in
          stops s at (rule_begun s at) r₃ (number_of 13 t) (place_of t) (rw (o, h, f, ← g)) j

      pub begun_read : (p n : ℕ) → spot_at s b (bytes "?duration") ≡ Some (p, n) → at < n → n ≤ length s → (Done n p ≡ answer_of (rule_begun s at))
          × Ahead (length s) at (Done n p)
      unfolding rule_begun
      begun_read p n f lo hi =
          let o = answer_done (opening s 14 at) a v (sym q ∙ e) in
          let h = answer_done (rule_head s (token_at s a) (after_of (token_at s a))) b w (sym q₂ ∙ i) in
          (rw (o, h, f), ahead_by _ _ _ _ lo hi)
