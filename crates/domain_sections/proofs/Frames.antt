-- The ways through what frames the sections. Assumes nothing.
use Rattle.std.specs.Prelude.{None, Some}
use mathlib.Core.Path.{◌≡◌, sym, ap, ◌∙◌}
use mathlib.Core.List.{List, [], ◌∷◌}
use mathlib.Core.Bool.{Bool, true, false, cond, ◌&&◌}
use Prim.Native.Nat.{ℕ, zero, suc, ◌+◌, ◌-◌, ◌≤◌, ◌<◌}
use native.Mathlib.Omega.{arith}
use lib.Dec.{eqb}
use lib.ListN.{length, get_or}
use types.Run.{OneOf}
use denote.Enum.Declared.{tag_of}
use Rattle.text_words.specs.Fixed.{is_flag}
use Rattle.text_words.specs.Spelling.{same_word}
use Rattle.text_tokens.specs.Runs.{part}
use Rattle.text_tokens.specs.Tokens.{token_at}
use Rattle.text_tokens.specs.declared.tokens.Token.{Token}
use Rattle.text_tokens.specs.declared.tokens.Token.TheVariants as T
use Rattle.text_tokens.specs.declared.tokens.Word.{Word}
use Rattle.text_tokens.specs.declared.tokens.Word.TheVariants as W
use Rattle.text_tokens.specs.contracts.tokens.Token as token-type
use Rattle.text_tokens.proofs.Within.{Within, token_within, part_length}
use Rattle.domain_meaning.specs.Read.{Read, got, refused, give, refuse}
use Rattle.domain_meaning.specs.Due.{after_of, number_of, place_of, Name, opening, closing, word_due, fixed, any_name}
use Rattle.domain_meaning.specs.Domain.{begins_with, ending, heading_of, flag_of, flags_to}
use Rattle.domain_due.specs.Answers.{answer_of, Parsed, Done, Refused}
use Rattle.domain_due.proofs.Dues.{not_word, not_open, not_close, not_end, open_in, word_in, done_parts, answer_done, answer_refused, never_done}
use Rattle.domain_sections.specs.Openings.{opened_of, Further, titled_of, TitledIn}
use Rattle.domain_sections.specs.Openings as H

-- the place after a bracket
open_next : (s : List ℕ) (at p n : ℕ) → at ≤ length s → token_at s at ≡ T.Open p n → n ≡ p + 1
unfolding Within
open_next s at p n h e = let w = rw e at (token_within s at h) in w.1

nothing_further : (n from : ℕ) → Further n from None
unfolding Further
nothing_further n from = tt

module _ (s w : List ℕ) (at : ℕ) where
  pub begins_else : (t : Token) → t ≡ token_at s at → OneOf (0 ∷ 1 ∷ 3 ∷ 4 ∷ 5 ∷ 6 ∷ []) (tag_of token-type.the_type t)
      → (None ≡ opened_of (begins_with s w at)) × Further (length s) at None
  unfolding begins_with
  begins_else t e o = (rw (← e, not_open t _ _ o), nothing_further (length s) at)

  module _ (h : at ≤ length s) (p n : ℕ) (q : token_at s at ≡ T.Open p n) where
    pub begins_none : (u : Token) → u ≡ token_at s n → OneOf (1 ∷ 2 ∷ 3 ∷ 4 ∷ 5 ∷ 6 ∷ []) (tag_of token-type.the_type u)
        → (None ≡ opened_of (begins_with s w at)) × Further (length s) at None
    unfolding begins_with
    begins_none u e o = (rw (q, ← open_next s at p n h q, ← e, not_word u _ _ o), nothing_further (length s) at)

    module _ (k : Word) (v e : ℕ) (r : token_at s n ≡ T.Word k v e) where
      pub begins_other : same_word (part s v e) w ≡ false → (None ≡ opened_of (begins_with s w at)) × Further (length s) at None
      unfolding begins_with
      begins_other m = (rw (q, ← open_next s at p n h q, r, m), nothing_further (length s) at)

      pub begins_here : same_word (part s v e) w ≡ true → (Some (v, e) ≡ opened_of (begins_with s w at)) × Further (length s) at (Some (v, e))
      unfolding begins_with Further
      begins_here m =
          let a = open_in s at h p n q in
          let b = word_in s n a.1 k v e r in
          (rw (q, ← open_next s at p n h q, r, m), (omega arith, b.2))

module _ (s : List ℕ) (at : ℕ) (r : Parsed) where
  pub ending_section : (p n : ℕ) (u : Token) → token_at s at ≡ T.Open p n → u ≡ token_at s n → r ≡ Refused (number_of 14 u) (place_of u)
      → r ≡ answer_of (ending s at)
  unfolding ending
  ending_section p n u e f q = simp (e, ← f) q

  pub ending_else : (t : Token) → t ≡ token_at s at → OneOf (0 ∷ 1 ∷ 3 ∷ 4 ∷ 5 ∷ 6 ∷ []) (tag_of token-type.the_type t)
      → OneOf (0 ∷ 1 ∷ 2 ∷ 4 ∷ 5 ∷ 6 ∷ []) (tag_of token-type.the_type t) → r ≡ Refused (number_of 15 t) (place_of t) → r ≡ answer_of (ending s at)
  unfolding ending
  ending_else t e o c q = rw (← e, not_close t _ _ c, not_open t _ _ o) q

  pub ending_behind : (p n : ℕ) (u : Token) → token_at s at ≡ T.Close p n → u ≡ token_at s n → OneOf (0 ∷ 1 ∷ 2 ∷ 3 ∷ 4 ∷ 5 ∷ []) (tag_of token-type.the_type u)
      → r ≡ Refused (number_of 16 u) (place_of u) → r ≡ answer_of (ending s at)
  unfolding ending
  ending_behind p n u e f o q = rw (e, ← f, not_end u _ _ o) q

pub ending_read : (s : List ℕ) (at p n q : ℕ) → token_at s at ≡ T.Close p n → token_at s n ≡ T.End q → Done q q ≡ answer_of (ending s at)
unfolding ending
ending_read s at p n q e f = rw (e, f)

-- ---- the heading: one thing after the other, of which each was read (`got`) until one is refused

module _ (s w : List ℕ) (at : ℕ) where
  pub heading_1 : (k p : ℕ) → opening s 16 at ≡ refused k p → heading_of s w at ≡ refused k p
  unfolding heading_of
  heading_1 k p e = rw e

  module _ (v a : ℕ) (q : opening s 16 at ≡ got v a) where
    pub heading_2 : (k p : ℕ) → fixed s 15 "define" a ≡ refused k p → heading_of s w at ≡ refused k p
    unfolding heading_of
    heading_2 k p e = rw (q, e)

    module _ (v2 b : ℕ) (q2 : fixed s 15 "define" a ≡ got v2 b) where
      pub heading_3 : (k p : ℕ) → opening s 15 b ≡ refused k p → heading_of s w at ≡ refused k p
      unfolding heading_of
      heading_3 k p e = rw (q, q2, e)

      module _ (v3 c : ℕ) (q3 : opening s 15 b ≡ got v3 c) where
        pub heading_4 : (k p : ℕ) → word_due s 14 w c ≡ refused k p → heading_of s w at ≡ refused k p
        unfolding heading_of
        heading_4 k p e = rw (q, q2, q3, e)

        module _ (v4 d : ℕ) (q4 : word_due s 14 w c ≡ got v4 d) where
          pub heading_5 : (k p : ℕ) → any_name s 14 d ≡ refused k p → heading_of s w at ≡ refused k p
          unfolding heading_of
          heading_5 k p e = rw (q, q2, q3, q4, e)

          module _ (n : Name) (e : ℕ) (q5 : any_name s 14 d ≡ got n e) where
            pub heading_6 : (k p : ℕ) → closing s 14 e ≡ refused k p → heading_of s w at ≡ refused k p
            unfolding heading_of
            heading_6 k p f = rw (q, q2, q3, q4, q5, f)

            pub heading_7 : (v6 a6 : ℕ) → closing s 14 e ≡ got v6 a6 → heading_of s w at ≡ got n a6
            unfolding heading_of
            heading_7 v6 a6 f = rw (q, q2, q3, q4, q5, f)

-- two equal answers to a heading have the same parts
pub heading_parts : (a b p q e f : ℕ) → H.At a p e ≡ H.At b q f → (a ≡ b) × (p ≡ q) × (e ≡ f)
heading_parts a b p q e f h =
    let g : ◌≡◌ {A = ℕ × ℕ × ℕ} (a, p, e) (b, q, f) = cc in
    (ap (λ (x : ℕ × ℕ × ℕ). x.0) g, ap (λ (x : ℕ × ℕ × ℕ). x.1) g, ap (λ (x : ℕ × ℕ × ℕ). x.2) g)

-- a refusal on the way
pub heading_stops : (s : List ℕ) (x : Read Name) (k p : ℕ) → x ≡ refused k p → (H.Refused k p ≡ titled_of x) × TitledIn (length s) (H.Refused k p)
unfolding TitledIn
heading_stops s x k p e = (sym (ap titled_of e), tt)

-- the whole heading, with its name from p to e
pub heading_read : (s : List ℕ) (x : Read Name) (p e a : ℕ) → x ≡ got (record { place = p; word = part s p e }) a → p ≤ e → e ≤ length s → a ≤ length s
    → (H.At a p e ≡ titled_of x) × TitledIn (length s) (H.At a p e)
unfolding TitledIn
heading_read s x p e a q lo hi in' =
    let n : p + length (part s p e) ≡ e = omega (arith, part_length s p e hi) in
    (sym (ap titled_of q ∙ ap (λ (k : ℕ). H.At a p k) n), in')

-- ---- flags

module _ (s : List ℕ) (t : Token) where
  pub flag_carried : (k : Word) (p e : ℕ) → t ≡ T.Word k p e → k ≡ W.Keyword → is_flag (part s p e) ≡ true → Done e p ≡ answer_of (flag_of s t (after_of t))
  flag_carried k p e q h f = rw (q, h, f)

  pub flag_missing : (k : Word) (p e : ℕ) → t ≡ T.Word k p e → k ≡ W.Keyword → is_flag (part s p e) ≡ false → Refused 11 p ≡ answer_of (flag_of s t (after_of t))
  flag_missing k p e q h f = rw (q, h, f)

-- a flag that was read ends within the text
flag_end : (s : List ℕ) (at : ℕ) (t : Token) (a v : ℕ) → Within s at t → answer_of (flag_of s t (after_of t)) ≡ Done a v → (at < a) × (a ≤ length s)
unfolding Within
flag_end s at (T.Word W.Keyword p e) a v w h = go (is_flag (part s p e)) h
  where
    go : (t : Bool) → answer_of (cond t (give p) (refuse 11 p) e) ≡ Done a v → (at < a) × (a ≤ length s)
    go true q = let n = done_parts e a p v q in (omega (arith, w.0, w.1, n.0), omega (arith, w.2, n.0))
    go false q = never_done 11 p a v q
flag_end s at (T.Word W.Name p e) a v w h = never_done 3 p a v h
flag_end s at (T.Word W.Variable p e) a v w h = never_done 3 p a v h
flag_end s at (T.Word W.Operator p e) a v w h = never_done 3 p a v h
flag_end s at (T.Number z p e) a v w h = never_done _ _ a v h
flag_end s at (T.Open p n) a v w h = never_done _ _ a v h
flag_end s at (T.Close p n) a v w h = never_done _ _ a v h
flag_end s at (T.Mark m p n) a v w h = never_done _ _ a v h
flag_end s at (T.Refusal k p) a v w h = go (eqb k 5 && eqb (get_or s p 0) 58) h
  where
    go : (t : Bool) → answer_of (cond t (refuse 11 p) (refuse k p) p) ≡ Done a v → (at < a) × (a ≤ length s)
    go true q = never_done 11 p a v q
    go false q = never_done k p a v q
flag_end s at (T.End p) a v w h = never_done _ _ a v h

pub flag_ahead : (s : List ℕ) (at a v : ℕ) → at ≤ length s → answer_of (flag_of s (token_at s at) (after_of (token_at s at))) ≡ Done a v → (at < a) × (a ≤ length s)
flag_ahead s at a v h q = flag_end s at (token_at s at) a v (token_within s at h) q

-- ---- the loop over flags: what the definition says of the rest, it says of the whole

pub record Going (s : List ℕ) (from at : ℕ) : Type 0 where
  pub on : (k : ℕ) → length s - from < k → (j : ℕ) × (length s - at < j) × (flags_to k s from ≡ flags_to j s at)

module _ (s : List ℕ) (from at : ℕ) (o : Going s from at) where
  whole : (x : Read ℕ) → ((j : ℕ) → flags_to (suc j) s at ≡ x) → (k : ℕ) → length s - from < k → flags_to k s from ≡ x
  whole x f k h = go (o.on k h).0 (o.on k h).1 (o.on k h).2
    where
      go : (j : ℕ) → length s - at < j → flags_to k s from ≡ flags_to j s at → flags_to k s from ≡ x
      go zero q e = absurd (let z : ⊥ = omega arith in z)
      go (suc j) q e = e ∙ f j

  pub going_close : (p n : ℕ) → token_at s at ≡ T.Close p n → (k : ℕ) → length s - from < k → Done n p ≡ answer_of (flags_to k s from)
  unfolding flags_to
  going_close p n e k h = sym (ap answer_of (whole (got p n) (λ j. rw e) k h))

  module _ (no : OneOf (0 ∷ 1 ∷ 2 ∷ 4 ∷ 5 ∷ 6 ∷ []) (tag_of token-type.the_type (token_at s at))) (r : Parsed)
      (q : r ≡ answer_of (flag_of s (token_at s at) (after_of (token_at s at)))) where
    pub going_refused : (i p : ℕ) → r ≡ Refused i p → (k : ℕ) → length s - from < k → Refused i p ≡ answer_of (flags_to k s from)
    unfolding flags_to
    going_refused i p e k h =
        sym (ap answer_of (whole (refused i p) (λ j. rw (
          not_close (token_at s at) _ _ no,
          answer_refused (flag_of s (token_at s at) (after_of (token_at s at))) i p (sym q ∙ e),
        )) k h))

    pub going_on : (a v : ℕ) → r ≡ Done a v → at < a → a ≤ length s → Going s from a
    unfolding flags_to
    going_on a v e lo hi = record { on = λ k h. go k (o.on k h).0 (o.on k h).1 (o.on k h).2 }
      where
        step : (j : ℕ) → flags_to (suc j) s at ≡ flags_to j s a
        step j = rw (not_close (token_at s at) _ _ no, answer_done (flag_of s (token_at s at) (after_of (token_at s at))) a v (sym q ∙ e))

        go : (k j : ℕ) → length s - at < j → flags_to k s from ≡ flags_to j s at → (i : ℕ) × (length s - a < i) × (flags_to k s from ≡ flags_to i s a)
        go k zero h f = absurd (let z : ⊥ = omega arith in z)
        go k (suc j) h f = (j, omega arith, f ∙ step j)
