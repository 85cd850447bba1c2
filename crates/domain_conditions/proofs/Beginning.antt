-- The ways in which a condition begins. Assumes nothing.
use Rattle.std.specs.Prelude.{Ok, Err}
use mathlib.Core.Path.{◌≡◌, refl}
use mathlib.Core.List.{List, [], ◌∷◌}
use mathlib.Core.Bool.{Bool}
use Prim.Native.Nat.{ℕ, zero, suc, ◌-◌, ◌≤◌, ◌<◌}
use native.Mathlib.Omega.{arith}
use types.Run.{OneOf, miss}
use denote.Enum.Declared.{tag_of}
use borrow.Author.Tests.{ne_eqb}
use Rattle.text_words.specs.declared.fixed.HeadWord.{HeadWord}
use Rattle.text_words.specs.declared.fixed.HeadWord.TheVariants as W
use Rattle.text_words.specs.contracts.fixed.HeadWord as head-type
use Rattle.text_tokens.specs.Tokens.{token_at}
use Rattle.text_tokens.specs.declared.tokens.Token.{Token}
use Rattle.text_tokens.specs.declared.tokens.Token.TheVariants as T
use Rattle.text_tokens.specs.declared.tokens.Word.{Word}
use Rattle.text_tokens.specs.contracts.tokens.Token as token-type
use Rattle.domain_meaning.specs.Read.{Read, Reader, refused, and_then}
use Rattle.domain_meaning.specs.Due.{number_of, place_of, opening}
use Rattle.domain_meaning.specs.Terms.{Scope, Counted, counted, on_name}
use Rattle.domain_meaning.specs.Conditions.{Cond, atom_at, operated}
use Rattle.domain_due.specs.Answers.{at}
use Rattle.domain_due.specs.declared.Refusal.{Refusal}
use Rattle.domain_due.proofs.Dues.{not_word, not_open}
use Rattle.domain_conditions.specs.Begins.{comparison_of, compared, headed_by, in_head, in_bracket, Begun, Begins, Inside, Placed}
use Rattle.domain_conditions.specs.declared.heads.ConditionHead.TheVariants as H

module _ (s : List ℕ) (d : ℕ) (c : Scope) (yes' : Bool) (n : ℕ) (f g : ℕ → ℕ → Reader (Counted Cond)) where
  pub begin_refused : (r : Begun) (k p : ℕ) (x : Read (Counted Cond)) → r ≡ Err (at k p) → x ≡ refused k p → Begins s d c yes' n f g r x
  unfolding Begins
  begin_refused r k p x e q = rw e q

  pub begin_by : (r : Begun) (x y : Read (Counted Cond)) → y ≡ x → Begins s d c yes' n f g r x → Begins s d c yes' n f g r y
  begin_by r x y e h = rw e h

  -- ---- a head word

  pub head_else : (t : Token) (at : ℕ) → t ≡ token_at s at → OneOf (1 ∷ 2 ∷ 3 ∷ 4 ∷ 5 ∷ 6 ∷ []) (tag_of token-type.the_type t)
      → in_head s d c yes' n f g at ≡ refused (number_of d t) (place_of t)
  head_else t at e o = rw (← e, not_word t _ _ o)

  pub head_word : (at : ℕ) (k j : Word) (p e : ℕ) → token_at s at ≡ T.Word k p e → k ≡ j → in_head s d c yes' n f g at ≡ headed_by s d c yes' n f g j p e e
  head_word at k j p e q h = rw (q, h)

  module _ (h : HeadWord) (p e : ℕ) where
    pub head_and : h ≡ W.And → Begins s d c yes' n f g (Ok (H.And p e)) (on_name h (f p e) (g p e) (atom_at s d c yes' n p e) e)
    unfolding Begins
    head_and q = rw q

    pub head_not : h ≡ W.Not → Begins s d c yes' n f g (Ok (H.Not p e)) (on_name h (f p e) (g p e) (atom_at s d c yes' n p e) e)
    unfolding Begins
    head_not q = rw q

  pub other_operator : (h : HeadWord) (p e : ℕ) → OneOf (0 ∷ 1 ∷ 7 ∷ 8 ∷ 9 ∷ 10 ∷ 11 ∷ 12 ∷ []) (tag_of head-type.the_type h)
      → operated s d c yes' n h p e ≡ refused 3 p
  other_operator W.Equal p e o = absurd (miss (0 ∷ 1 ∷ 7 ∷ 8 ∷ 9 ∷ 10 ∷ 11 ∷ 12 ∷ []) 2 tt o)
  other_operator W.Less p e o = absurd (miss (0 ∷ 1 ∷ 7 ∷ 8 ∷ 9 ∷ 10 ∷ 11 ∷ 12 ∷ []) 3 tt o)
  other_operator W.AtMost p e o = absurd (miss (0 ∷ 1 ∷ 7 ∷ 8 ∷ 9 ∷ 10 ∷ 11 ∷ 12 ∷ []) 4 tt o)
  other_operator W.More p e o = absurd (miss (0 ∷ 1 ∷ 7 ∷ 8 ∷ 9 ∷ 10 ∷ 11 ∷ 12 ∷ []) 5 tt o)
  other_operator W.AtLeast p e o = absurd (miss (0 ∷ 1 ∷ 7 ∷ 8 ∷ 9 ∷ 10 ∷ 11 ∷ 12 ∷ []) 6 tt o)
  other_operator W.And p e o = refl
  other_operator W.Not p e o = refl
  other_operator W.Plus p e o = refl
  other_operator W.Minus p e o = refl
  other_operator W.Assign p e o = refl
  other_operator W.Increase p e o = refl
  other_operator W.Decrease p e o = refl
  other_operator W.Other p e o = refl

  pub other_name : (h : HeadWord) (p e : ℕ) → OneOf (2 ∷ 3 ∷ 4 ∷ 5 ∷ 6 ∷ 7 ∷ 8 ∷ 9 ∷ 10 ∷ 11 ∷ 12 ∷ []) (tag_of head-type.the_type h)
      → Begins s d c yes' n f g (Ok (H.Atom p e)) (on_name h (f p e) (g p e) (atom_at s d c yes' n p e) e)
  unfolding Begins
  other_name W.And p e o = absurd (miss (2 ∷ 3 ∷ 4 ∷ 5 ∷ 6 ∷ 7 ∷ 8 ∷ 9 ∷ 10 ∷ 11 ∷ 12 ∷ []) 0 tt o)
  other_name W.Not p e o = absurd (miss (2 ∷ 3 ∷ 4 ∷ 5 ∷ 6 ∷ 7 ∷ 8 ∷ 9 ∷ 10 ∷ 11 ∷ 12 ∷ []) 1 tt o)
  other_name W.Equal p e o = refl
  other_name W.Less p e o = refl
  other_name W.AtMost p e o = refl
  other_name W.More p e o = refl
  other_name W.AtLeast p e o = refl
  other_name W.Plus p e o = refl
  other_name W.Minus p e o = refl
  other_name W.Assign p e o = refl
  other_name W.Increase p e o = refl
  other_name W.Decrease p e o = refl
  other_name W.Other p e o = refl

  -- ---- a comparison is counted

  pub comparison_none : (k p e : ℕ) → n ≡ 0 → and_then (counted p n e) (compared s d c yes' (comparison_of k)) ≡ refused 12 p
  unfolding counted
  comparison_none k p e z = rw z

  -- ---- a bracket, where i levels are left

  pub bracket_else : (i : ℕ) (t : Token) (at : ℕ) → t ≡ token_at s at → OneOf (0 ∷ 1 ∷ 3 ∷ 4 ∷ 5 ∷ 6 ∷ []) (tag_of token-type.the_type t)
      → in_bracket s i c yes' n f g at ≡ refused (number_of i t) (place_of t)
  unfolding opening
  bracket_else i t at e o = rw (← e, not_open t _ _ o)

  pub bracket_deep : (i at p a : ℕ) → token_at s at ≡ T.Open p a → i ≡ 0 → in_bracket s i c yes' n f g at ≡ refused (number_of i (T.Open p a)) p
  unfolding opening
  bracket_deep i at p a e z = rw (z, e)

  pub bracket_open : (i at p a : ℕ) → token_at s at ≡ T.Open p a → (i ≡ 0 → ⊥) → in_bracket s i c yes' n f g at ≡ in_head s (i - 1) c yes' n f g a
  unfolding opening
  bracket_open i at p a e z = rw (e, ne_eqb i 0 z)

pub comparison_some : (s : List ℕ) (d : ℕ) (c : Scope) (yes' : Bool) (f g : ℕ → ℕ → Reader (Counted Cond)) (n k p e : ℕ) → (n ≡ 0 → ⊥)
    → Begins s d c yes' n f g (Ok (H.Compared k e (n - 1))) (and_then (counted p n e) (compared s d c yes' (comparison_of k)))
unfolding counted Begins
comparison_some s d c yes' f g zero k p e z = absurd (z refl)
comparison_some s d c yes' f g (suc n) k p e z = let o : suc n - 1 ≡ n = omega arith in rw o

-- ---- places

pub inside_refused : (at most : ℕ) (why : Refusal) → Inside at most (Err why)
unfolding Inside
inside_refused at most why = tt

pub inside_and : (at most p e : ℕ) → at < e → e ≤ most → Inside at most (Ok (H.And p e))
unfolding Inside
inside_and at most p e lo hi = (lo, hi)

pub inside_not : (at most p e : ℕ) → at < e → e ≤ most → Inside at most (Ok (H.Not p e))
unfolding Inside
inside_not at most p e lo hi = (lo, hi)

pub inside_atom : (at most p e : ℕ) → at < e → e ≤ most → Inside at most (Ok (H.Atom p e))
unfolding Inside
inside_atom at most p e lo hi = (lo, hi)

pub inside_compared : (at most k e m : ℕ) → at < e → e ≤ most → k ≤ 4 → Inside at most (Ok (H.Compared k e m))
unfolding Inside
inside_compared at most k e m lo hi few = (lo, hi, few)

pub inside_from : (r : Begun) (at p most e : ℕ) → at ≤ p → e ≤ most → Inside p e r → Inside at most r
unfolding Inside
inside_from (Ok (H.And a b)) at p most e lo hi h = (omega (arith, h.0), omega (arith, h.1))
inside_from (Ok (H.Not a b)) at p most e lo hi h = (omega (arith, h.0), omega (arith, h.1))
inside_from (Ok (H.Atom a b)) at p most e lo hi h = (omega (arith, h.0), omega (arith, h.1))
inside_from (Ok (H.Compared k b m)) at p most e lo hi h = (omega (arith, h.0), omega (arith, h.1), h.2)
inside_from (Err why) at p most e lo hi h = tt

pub placed_refused : (at most d : ℕ) (why : Refusal) → Placed at most d (Err why)
unfolding Placed
placed_refused at most d why = tt

pub placed_inside : (r : Begun) (at a most d : ℕ) → at < a → 0 < d → Inside a most r → Placed at most d r
unfolding Inside Placed
placed_inside (Ok (H.And p b)) at a most d lo k h = (omega (arith, h.0), h.1, k)
placed_inside (Ok (H.Not p b)) at a most d lo k h = (omega (arith, h.0), h.1, k)
placed_inside (Ok (H.Atom p b)) at a most d lo k h = (omega (arith, h.0), h.1, k)
placed_inside (Ok (H.Compared j b m)) at a most d lo k h = (omega (arith, h.0), h.1, k, h.2)
placed_inside (Err why) at a most d lo k h = tt
