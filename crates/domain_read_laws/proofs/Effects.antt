-- Effects that are read name what is declared, and their size is at most as many as bytes were read. Assumes nothing.
use mathlib.Core.Path.{◌≡◌}
use mathlib.Core.List.{List, [], ◌∷◌, ◌++◌}
use mathlib.Core.Bool.{Bool, true, false}
use Prim.Native.Nat.{ℕ, zero, suc, ◌+◌, ◌-◌, ◌≤◌}
use native.Mathlib.Omega.{arith}
use lib.ListN.{length}
use Rattle.text_words.specs.Fixed.{head_of}
use Rattle.text_words.specs.declared.fixed.HeadWord.{HeadWord}
use Rattle.text_words.specs.declared.fixed.HeadWord.TheVariants as H
use Rattle.text_tokens.specs.Runs.{part}
use Rattle.text_tokens.specs.Tokens.{token_at}
use Rattle.text_tokens.specs.declared.tokens.Word.{Word}
use Rattle.text_tokens.specs.declared.tokens.Word.TheVariants as W
use Rattle.domain_meaning.specs.Read.{Reader}
use Rattle.domain_meaning.specs.Terms.{Scope, Counted}
use Rattle.domain_meaning.specs.Effects.{Change, assign, raise, lower, Effect, becomes_at, target, change_at, deleted_word, in_deletion, deletion}
use Rattle.domain_meaning.specs.Effects.{effects_to, effect_head, effect_word, effect}
use Rattle.domain_meaning.proofs.Given.{Fits, fits, stops, fits_also, given_then, word_gives, close_ahead, name_gives}
use Rattle.domain_meaning.proofs.Steps.{opening_fits, closing_fits, any_name_fits, counted_fits}
use Rattle.domain_read_laws.proofs.Sizes.{ref_size_lem, effect_size, effects_size, list_size}
use Rattle.domain_read_laws.proofs.Named.{NamedRef, NamedEffect, NamedEffects}
use Rattle.domain_read_laws.proofs.Terms.{declared_fits, reference_fits, expression_fits}

abbrev NamedOf : Scope → Counted (List Effect) → Type 0
NamedOf c x = NamedEffects c x.tree

abbrev size_of : Counted (List Effect) → ℕ
size_of x = effects_size x.tree

named_join : (c : Scope) (xs ys : List Effect) → NamedEffects c xs → NamedEffects c ys → NamedEffects c (xs ++ ys)
unfolding NamedEffects
named_join c [] ys g h = h
named_join c (x ∷ xs) ys g h = (g.0, named_join c xs ys g.1 h)

effects_join : (xs ys : List Effect) → effects_size (xs ++ ys) ≡ effects_size xs + effects_size ys
unfolding effects_size
effects_join [] ys = omega arith
effects_join (x ∷ xs) ys = omega (arith, effects_join xs ys)

-- ---- lists, of which f reads a part

list_fits : (s : List ℕ) (c : Scope) (d : ℕ) (f : ℕ → Reader (Counted (List Effect))) → ((n at : ℕ) → Fits (NamedOf c) size_of at 0 (f n at))
    → (k n at : ℕ) → Fits (NamedOf c) size_of at 2 (effects_to k s d f n at)
unfolding effects_to effects_size NamedEffects
list_fits s c d f r zero n at = stops
list_fits s c d f r (suc k) n at =
    close_ahead (token_at s at) _ _ at (λ p. given_then _ (closing_fits s d at) (λ q m h. fits tt (omega arith) (omega arith)))
    (given_then _ (r n at)
    (λ x i h. given_then _ (list_fits s c d f r k x.left i)
    (λ xs j u. fits (named_join c x.tree xs.tree h.good u.good) (omega arith) (omega (arith, effects_join x.tree xs.tree)))))

-- ---- single effects, after the bracket and the head word, of which two bytes are read already

module _ (s : List ℕ) (c : Scope) where
  becomes_fits : (d : ℕ) (yes' : Bool) (n p e at : ℕ) → Fits (NamedOf c) size_of at 2 (becomes_at s d c yes' n p e at)
  unfolding becomes_at effect_size effects_size NamedEffects NamedEffect
  becomes_fits d yes' n p e at =
      given_then _ (declared_fits c.predicates p (part s p e) at)
      (λ j a h. given_then _ (counted_fits p n a)
      (λ m b l. given_then _ (reference_fits s c d c.predicates j b h.good)
      (λ r i v. fits (v.good, tt) (omega arith) (omega arith))))

  target_fits : (d at : ℕ) → Fits (NamedRef c c.functions) ref_size_lem at 0 (target s d c at)
  unfolding target
  target_fits d at =
      given_then _ (opening_fits s d at)
      (λ p a h. given_then _ (any_name_fits s (d - 1) a)
      (λ n b l. given_then _ (declared_fits c.functions n.place n.word b)
      (λ i e v. fits_also (reference_fits s c (d - 1) c.functions i e v.good) (omega arith) (λ r m y. omega arith))))

  change_fits : (d : ℕ) (how : Change) (n p at : ℕ) → d ≤ 15 → Fits (NamedOf c) size_of at 2 (change_at s d c how n p at)
  unfolding change_at effect_size effects_size NamedEffects NamedEffect
  change_fits d how n p at deep =
      given_then _ (counted_fits p n at)
      (λ m a h. given_then _ (target_fits d a)
      (λ r b l. given_then _ (expression_fits s c d b deep)
      (λ x e v. given_then _ (closing_fits s d e)
      (λ q i g. fits ((l.good, v.good.named), tt) (omega arith) (omega arith)))))

  deleted_fits : (d n : ℕ) (k : Word) (p e at : ℕ) → Fits (NamedOf c) size_of at 2 (deleted_word s d c n k p e at)
  deleted_fits d n W.Name p e at = name_gives (head_of (part s p e)) _ _ _ at stops (becomes_fits d false n p e at) (becomes_fits d false n p e at)
  deleted_fits d n W.Variable p e at = stops
  deleted_fits d n W.Keyword p e at = stops
  deleted_fits d n W.Operator p e at = stops

  in_deletion_fits : (d n at : ℕ) → Fits (NamedOf c) size_of at 1 (in_deletion s d c n at)
  in_deletion_fits d n at = word_gives s at _ _ (λ k p e t h l y. fits_also (deleted_fits d n k p e e) (omega arith) (λ a m u. omega arith)) stops

  deletion_fits : (d n at : ℕ) → Fits (NamedOf c) size_of at 2 (deletion s d c n at)
  unfolding deletion
  deletion_fits d n at =
      given_then _ (opening_fits s d at)
      (λ p a h. given_then _ (in_deletion_fits (d - 1) n a) (λ x b l. given_then _ (closing_fits s d b) (λ q i v. fits l.good (omega arith) (omega arith))))

  module _ (d : ℕ) (f : ℕ → Reader (Counted (List Effect))) (deep : d ≤ 15) (r : (n at : ℕ) → Fits (NamedOf c) size_of at 0 (f n at)) (n : ℕ) where
    head_fits : (w : HeadWord) (p e at : ℕ) → Fits (NamedOf c) size_of at 2 (effect_head s d c f n w p e at)
    head_fits H.And p e at = list_fits s c d f r (length s + 1) n at
    head_fits H.Not p e at = deletion_fits d n at
    head_fits H.Assign p e at = change_fits d assign n p at deep
    head_fits H.Increase p e at = change_fits d raise n p at deep
    head_fits H.Decrease p e at = change_fits d lower n p at deep
    head_fits H.Equal p e at = becomes_fits d true n p e at
    head_fits H.Less p e at = becomes_fits d true n p e at
    head_fits H.AtMost p e at = becomes_fits d true n p e at
    head_fits H.More p e at = becomes_fits d true n p e at
    head_fits H.AtLeast p e at = becomes_fits d true n p e at
    head_fits H.Plus p e at = becomes_fits d true n p e at
    head_fits H.Minus p e at = becomes_fits d true n p e at
    head_fits H.Other p e at = becomes_fits d true n p e at

    effect_word_fits : (k : Word) (p e at : ℕ) → Fits (NamedOf c) size_of at 2 (effect_word s d c f n k p e at)
    effect_word_fits W.Name p e at = head_fits (head_of (part s p e)) p e at
    effect_word_fits W.Variable p e at = stops
    effect_word_fits W.Keyword p e at = stops
    effect_word_fits W.Operator p e at = stops

  -- an effect, where d levels of brackets are left
  effect_fits : (d n at : ℕ) → d ≤ 16 → Fits (NamedOf c) size_of at 0 (effect d s c n at)
  unfolding effect
  effect_fits zero n at h = given_then _ (opening_fits s zero at) (λ p i k. stops)
  effect_fits (suc d) n at h =
      given_then _ (opening_fits s (suc d) at)
      (λ p i l. word_gives s i _ _
      (λ k q e t u v y. fits_also (effect_word_fits d (effect d s c) (omega arith) (λ m j. effect_fits d m j (omega arith)) n k q e e) (omega arith)
      (λ a m o. omega arith)) stops)

  -- with the end of its list
  pub listed_fits : (d n at : ℕ) → d ≤ 16 → Fits (λ x. NamedEffects c x.tree) (λ x. list_size x.tree) at 1 (effect d s c n at)
  listed_fits d n at h = fits_also (effect_fits d n at h) (omega arith) (λ x m k. omega arith)
