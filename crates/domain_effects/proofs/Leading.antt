-- The ways in which an effect begins. Assumes nothing.
use Rattle.std.specs.Prelude.{Ok, Err}
use mathlib.Core.Path.{◌≡◌, refl}
use mathlib.Core.List.{List, [], ◌∷◌}
use Prim.Native.Nat.{ℕ, zero, suc, ◌-◌, ◌≤◌, ◌<◌}
use native.Mathlib.Omega.{arith}
use types.Run.{OneOf, miss}
use denote.Enum.Declared.{tag_of}
use borrow.Author.Tests.{ne_eqb}
use Rattle.text_words.specs.Fixed.{head_of}
use Rattle.text_words.specs.declared.fixed.HeadWord.{HeadWord}
use Rattle.text_words.specs.declared.fixed.HeadWord.TheVariants as H
use Rattle.text_words.specs.contracts.fixed.HeadWord as head-type
use Rattle.text_tokens.specs.Runs.{part}
use Rattle.text_tokens.specs.Tokens.{token_at}
use Rattle.text_tokens.specs.declared.tokens.Token.{Token}
use Rattle.text_tokens.specs.declared.tokens.Token.TheVariants as T
use Rattle.text_tokens.specs.declared.tokens.Word.{Word}
use Rattle.text_tokens.specs.declared.tokens.Word.TheVariants as W
use Rattle.text_tokens.specs.contracts.tokens.Token as token-type
use Rattle.text_tokens.specs.contracts.tokens.Word as word-type
use Rattle.domain_meaning.specs.Read.{Read, Reader, refused}
use Rattle.domain_meaning.specs.Due.{number_of, place_of, opening}
use Rattle.domain_meaning.specs.Terms.{Scope, Counted}
use Rattle.domain_meaning.specs.Effects.{assign, raise, lower, Effect, effect_head, effect_word, effect}
use Rattle.domain_due.specs.Answers as A
use Rattle.domain_due.proofs.Dues.{not_word, not_open}
use Rattle.domain_effects.specs.Leads.{Begun, in_bracket, Leads, Inside}
use Rattle.domain_effects.specs.declared.heads.EffectHead.{EffectHead}
use Rattle.domain_effects.specs.declared.heads.EffectHead.TheVariants as L

-- ---- by the head word

module _ (s : List ℕ) (d : ℕ) (c : Scope) (f : ℕ → Reader (Counted (List Effect))) (n : ℕ) where
  module _ (h : HeadWord) (p e : ℕ) where
    pub lead_all : h ≡ H.And → Leads s d c f n (Ok (L.All e)) (effect_head s d c f n h p e e)
    unfolding Leads
    lead_all q = rw q

    pub lead_not : h ≡ H.Not → Leads s d c f n (Ok (L.Not e)) (effect_head s d c f n h p e e)
    unfolding Leads
    lead_not q = rw q

    pub lead_assign : h ≡ H.Assign → Leads s d c f n (Ok (L.Change 12 p e)) (effect_head s d c f n h p e e)
    unfolding Leads
    lead_assign q = rw q (assign, refl, refl)

    pub lead_raise : h ≡ H.Increase → Leads s d c f n (Ok (L.Change 15 p e)) (effect_head s d c f n h p e e)
    unfolding Leads
    lead_raise q = rw q (raise, refl, refl)

    pub lead_lower : h ≡ H.Decrease → Leads s d c f n (Ok (L.Change 18 p e)) (effect_head s d c f n h p e e)
    unfolding Leads
    lead_lower q = rw q (lower, refl, refl)

  pub lead_fact : (h : HeadWord) (p e : ℕ) → OneOf (2 ∷ 3 ∷ 4 ∷ 5 ∷ 6 ∷ 7 ∷ 8 ∷ 12 ∷ []) (tag_of head-type.the_type h)
      → Leads s d c f n (Ok (L.Fact p e)) (effect_head s d c f n h p e e)
  unfolding Leads
  lead_fact H.And p e o = absurd (miss (2 ∷ 3 ∷ 4 ∷ 5 ∷ 6 ∷ 7 ∷ 8 ∷ 12 ∷ []) 0 tt o)
  lead_fact H.Not p e o = absurd (miss (2 ∷ 3 ∷ 4 ∷ 5 ∷ 6 ∷ 7 ∷ 8 ∷ 12 ∷ []) 1 tt o)
  lead_fact H.Assign p e o = absurd (miss (2 ∷ 3 ∷ 4 ∷ 5 ∷ 6 ∷ 7 ∷ 8 ∷ 12 ∷ []) 9 tt o)
  lead_fact H.Increase p e o = absurd (miss (2 ∷ 3 ∷ 4 ∷ 5 ∷ 6 ∷ 7 ∷ 8 ∷ 12 ∷ []) 10 tt o)
  lead_fact H.Decrease p e o = absurd (miss (2 ∷ 3 ∷ 4 ∷ 5 ∷ 6 ∷ 7 ∷ 8 ∷ 12 ∷ []) 11 tt o)
  lead_fact H.Equal p e o = refl
  lead_fact H.Less p e o = refl
  lead_fact H.AtMost p e o = refl
  lead_fact H.More p e o = refl
  lead_fact H.AtLeast p e o = refl
  lead_fact H.Plus p e o = refl
  lead_fact H.Minus p e o = refl
  lead_fact H.Other p e o = refl

  pub lead_refused : (r : Begun) (k p : ℕ) (x : Read (Counted (List Effect))) → r ≡ Err (A.at k p) → x ≡ refused k p → Leads s d c f n r x
  unfolding Leads
  lead_refused r k p x e q = rw e q

  pub lead_by : (r : Begun) (x y : Read (Counted (List Effect))) → y ≡ x → Leads s d c f n r x → Leads s d c f n r y
  lead_by r x y e h = rw e h

  -- ---- after a bracket

  other_word : (k : Word) (p e : ℕ) → OneOf (1 ∷ 2 ∷ 3 ∷ []) (tag_of word-type.the_type k) → effect_word s d c f n k p e e ≡ refused 3 p
  other_word W.Name p e o = absurd (miss (1 ∷ 2 ∷ 3 ∷ []) 0 tt o)
  other_word W.Variable p e o = refl
  other_word W.Keyword p e o = refl
  other_word W.Operator p e o = refl

  module _ (at : ℕ) where
    pub head_else : (t : Token) → t ≡ token_at s at → OneOf (1 ∷ 2 ∷ 3 ∷ 4 ∷ 5 ∷ 6 ∷ []) (tag_of token-type.the_type t)
        → in_bracket s d c f n at ≡ refused (number_of d t) (place_of t)
    head_else t e o = rw (← e, not_word t _ _ o)

    pub head_other : (k : Word) (p e : ℕ) → token_at s at ≡ T.Word k p e → OneOf (1 ∷ 2 ∷ 3 ∷ []) (tag_of word-type.the_type k)
        → in_bracket s d c f n at ≡ refused 3 p
    head_other k p e q o = rw q (other_word k p e o)

    pub head_name : (k : Word) (p e : ℕ) → token_at s at ≡ T.Word k p e → k ≡ W.Name → in_bracket s d c f n at ≡ effect_head s d c f n (head_of (part s p e)) p e e
    head_name k p e q h = rw (q, h)

-- ---- an effect

module _ (s : List ℕ) (c : Scope) where
  pub effect_else : (d n at : ℕ) (t : Token) → t ≡ token_at s at → OneOf (0 ∷ 1 ∷ 3 ∷ 4 ∷ 5 ∷ 6 ∷ []) (tag_of token-type.the_type t)
      → effect d s c n at ≡ refused (number_of d t) (place_of t)
  unfolding effect opening
  effect_else zero n at t e o = rw (← e, not_open t _ _ o)
  effect_else (suc d) n at t e o = rw (← e, not_open t _ _ o)

  pub effect_deep : (d n at p a : ℕ) → token_at s at ≡ T.Open p a → d ≡ 0 → effect d s c n at ≡ refused (number_of d (T.Open p a)) p
  unfolding effect opening
  effect_deep d n at p a e z = rw (z, e)

  pub effect_open : (d n at p a : ℕ) → token_at s at ≡ T.Open p a → (d ≡ 0 → ⊥) → effect d s c n at ≡ in_bracket s (d - 1) c (effect (d - 1) s c) n a
  unfolding effect opening
  effect_open zero n at p a e z = absurd (z refl)
  effect_open (suc d) n at p a e z = let o : suc d - 1 ≡ d = omega arith in rw (e, ne_eqb (suc d) 0 z, o)

-- ---- places

module _ (least most levels : ℕ) where
  pub inside_all : (e : ℕ) → least ≤ e → e ≤ most → 0 < levels → Inside least most levels (Ok (L.All e))
  unfolding Inside
  inside_all e lo hi l = (lo, hi, l)

  pub inside_not : (e : ℕ) → least ≤ e → e ≤ most → 0 < levels → Inside least most levels (Ok (L.Not e))
  unfolding Inside
  inside_not e lo hi l = (lo, hi, l)

  pub inside_change : (tag p e : ℕ) → least ≤ e → e ≤ most → 0 < levels → tag ≤ 251 → Inside least most levels (Ok (L.Change tag p e))
  unfolding Inside
  inside_change tag p e lo hi l small = (lo, hi, l, small)

  pub inside_fact : (p e : ℕ) → least ≤ e → e ≤ most → 0 < levels → Inside least most levels (Ok (L.Fact p e))
  unfolding Inside
  inside_fact p e lo hi l = (lo, hi, l)

  pub inside_refused : (k p : ℕ) → Inside least most levels (Err (A.at k p))
  unfolding Inside
  inside_refused k p = tt

  pub inside_from : (r : Begun) (lo hi few : ℕ) → least ≤ lo → hi ≤ most → few ≤ levels → Inside lo hi few r → Inside least most levels r
  unfolding Inside
  inside_from (Ok (L.All e)) lo hi few a b i h = (omega (arith, h.0), omega (arith, h.1), omega (arith, h.2))
  inside_from (Ok (L.Not e)) lo hi few a b i h = (omega (arith, h.0), omega (arith, h.1), omega (arith, h.2))
  inside_from (Ok (L.Change tag p e)) lo hi few a b i h = (omega (arith, h.0), omega (arith, h.1), omega (arith, h.2), h.3)
  inside_from (Ok (L.Fact p e)) lo hi few a b i h = (omega (arith, h.0), omega (arith, h.1), omega (arith, h.2))
  inside_from (Err why) lo hi few a b i h = tt
