-- The ways in which an expression begins. Assumes nothing.
use Rattle.std.specs.Prelude.{Ok, Err}
use mathlib.Core.Path.{◌≡◌, refl}
use mathlib.Core.List.{List, [], ◌∷◌}
use mathlib.Core.Bool.{Bool, true, false}
use Prim.Native.Nat.{ℕ, zero, suc, ◌+◌, ◌-◌, ◌≤◌, ◌<◌}
use native.Mathlib.Omega.{arith}
use lib.IntN.{ℤ}
use lib.ListN.{length}
use lib.Signed.{mag}
use types.Run.{OneOf, miss}
use denote.Enum.Declared.{tag_of}
use Rattle.text_words.specs.declared.fixed.HeadWord.{HeadWord}
use Rattle.text_words.specs.declared.fixed.HeadWord.TheVariants as H
use Rattle.text_words.specs.contracts.fixed.HeadWord as head-type
use Rattle.text_tokens.specs.Tokens.{token_at}
use Rattle.text_tokens.specs.declared.tokens.Token.{Token}
use Rattle.text_tokens.specs.declared.tokens.Token.TheVariants as T
use Rattle.text_tokens.specs.declared.tokens.Word.{Word}
use Rattle.text_tokens.specs.declared.tokens.Word.TheVariants as W
use Rattle.text_tokens.specs.contracts.tokens.Token as token-type
use Rattle.domain_meaning.specs.Read.{Read, Reader, got, refused}
use Rattle.domain_meaning.specs.Due.{number_of, place_of}
use Rattle.domain_meaning.specs.Terms.{Scope, Expr, number, Counted, counts, counted, operation, headed, in_bracket, expr}
use Rattle.domain_due.specs.Answers.{at}
use Rattle.domain_due.specs.declared.Refusal.{Refusal}
use Rattle.domain_due.proofs.Dues.{not_word, not_number, not_open}
use Rattle.domain_literals.specs.Literal.{number_cells}
use Rattle.domain_expressions.specs.Begins.{Begun, Bracketed, Begins, Inside, Placed}
use Rattle.domain_expressions.specs.declared.heads.ExpressionHead.TheVariants as B

-- ---- after a bracket

module _ (s : List ℕ) (d : ℕ) (c : Scope) (f : ℕ → Reader (Counted Expr)) (n : ℕ) where
  pub bracket_refused : (r : Begun) (k p : ℕ) (x : Read (Counted Expr)) → r ≡ Err (at k p) → x ≡ refused k p → Bracketed s d c f n r x
  unfolding Bracketed
  bracket_refused r k p x e q = rw e q

  pub bracket_by : (r : Begun) (x y : Read (Counted Expr)) → y ≡ x → Bracketed s d c f n r x → Bracketed s d c f n r y
  bracket_by r x y e h = rw e h

  pub bracket_name : (p e : ℕ) (x : Read (Counted Expr)) → x ≡ headed s d c f n W.Name p e e → Bracketed s d c f n (Ok (B.Function p e)) x
  unfolding Bracketed
  bracket_name p e x q = q

  pub head_else : (t : Token) (at : ℕ) → t ≡ token_at s at → OneOf (1 ∷ 2 ∷ 3 ∷ 4 ∷ 5 ∷ 6 ∷ []) (tag_of token-type.the_type t)
      → in_bracket s d c f n at ≡ refused (number_of d t) (place_of t)
  head_else t at e o = rw (← e, not_word t _ _ o)

  pub head_word : (at : ℕ) (k j : Word) (p e : ℕ) → token_at s at ≡ T.Word k p e → k ≡ j → in_bracket s d c f n at ≡ headed s d c f n j p e e
  head_word at k j p e q h = rw (q, h)

  module _ (h : HeadWord) (p e : ℕ) where
    pub plus_none : h ≡ H.Plus → n ≡ 0 → operation s d f n h p e ≡ refused 12 p
    unfolding counted
    plus_none q z = rw (q, z)

    pub minus_none : h ≡ H.Minus → n ≡ 0 → operation s d f n h p e ≡ refused 12 p
    unfolding counted
    minus_none q z = rw (q, z)

  pub other_head : (h : HeadWord) (p e : ℕ) → OneOf (0 ∷ 1 ∷ 2 ∷ 3 ∷ 4 ∷ 5 ∷ 6 ∷ 9 ∷ 10 ∷ 11 ∷ 12 ∷ []) (tag_of head-type.the_type h)
      → operation s d f n h p e ≡ refused 3 p
  other_head H.Plus p e o = absurd (miss (0 ∷ 1 ∷ 2 ∷ 3 ∷ 4 ∷ 5 ∷ 6 ∷ 9 ∷ 10 ∷ 11 ∷ 12 ∷ []) 7 tt o)
  other_head H.Minus p e o = absurd (miss (0 ∷ 1 ∷ 2 ∷ 3 ∷ 4 ∷ 5 ∷ 6 ∷ 9 ∷ 10 ∷ 11 ∷ 12 ∷ []) 8 tt o)
  other_head H.And p e o = refl
  other_head H.Not p e o = refl
  other_head H.Equal p e o = refl
  other_head H.Less p e o = refl
  other_head H.AtMost p e o = refl
  other_head H.More p e o = refl
  other_head H.AtLeast p e o = refl
  other_head H.Assign p e o = refl
  other_head H.Increase p e o = refl
  other_head H.Decrease p e o = refl
  other_head H.Other p e o = refl

module _ (s : List ℕ) (d : ℕ) (c : Scope) (f : ℕ → Reader (Counted Expr)) where
  pub plus_some : (n : ℕ) (h : HeadWord) (p e : ℕ) → h ≡ H.Plus → (n ≡ 0 → ⊥) → Bracketed s d c f n (Ok (B.Operation false e (n - 1))) (operation s d f n h p e)
  unfolding counted Bracketed
  plus_some zero h p e q z = absurd (z refl)
  plus_some (suc n) h p e q z = let k : suc n - 1 ≡ n = omega arith in rw (q, k)

  pub minus_some : (n : ℕ) (h : HeadWord) (p e : ℕ) → h ≡ H.Minus → (n ≡ 0 → ⊥) → Bracketed s d c f n (Ok (B.Operation true e (n - 1))) (operation s d f n h p e)
  unfolding counted Bracketed
  minus_some zero h p e q z = absurd (z refl)
  minus_some (suc n) h p e q z = let k : suc n - 1 ≡ n = omega arith in rw (q, k)

-- ---- places

pub inside_refused : (at most : ℕ) (why : Refusal) → Inside at most (Err why)
unfolding Inside
inside_refused at most why = tt

pub inside_operation : (at most : ℕ) (minus : Bool) (e m : ℕ) → at < e → e ≤ most → Inside at most (Ok (B.Operation minus e m))
unfolding Inside
inside_operation at most minus e m lo hi = (lo, hi)

pub inside_function : (at most p e : ℕ) → at < e → e ≤ most → Inside at most (Ok (B.Function p e))
unfolding Inside
inside_function at most p e lo hi = (lo, hi)

pub inside_from : (r : Begun) (at p most e : ℕ) → at ≤ p → e ≤ most → Inside p e r → Inside at most r
unfolding Inside
inside_from (Ok (B.Number z b m)) at p most e lo hi h = h
inside_from (Ok (B.Function a b)) at p most e lo hi h = (omega (arith, h.0), omega (arith, h.1))
inside_from (Ok (B.Operation minus b m)) at p most e lo hi h = (omega (arith, h.0), omega (arith, h.1))
inside_from (Err why) at p most e lo hi h = tt

pub placed_refused : (at most d : ℕ) (why : Refusal) → Placed at most d (Err why)
unfolding Placed
placed_refused at most d why = tt

pub placed_number : (at most d : ℕ) (z : ℤ) (e m : ℕ) → at < e → e ≤ most → length (number_cells z) + at ≤ e + 1 → mag z < 1099511627776
    → Placed at most d (Ok (B.Number z e m))
unfolding Placed
placed_number at most d z e m lo hi room small = (lo, hi, room, small)

pub placed_inside : (r : Begun) (at a most d : ℕ) → at < a → 0 < d → Inside a most r → Placed at most d r
unfolding Inside Placed
placed_inside (Ok (B.Number z b m)) at a most d lo k h = absurd h
placed_inside (Ok (B.Function p b)) at a most d lo k h = (omega (arith, h.0), h.1, k)
placed_inside (Ok (B.Operation minus b m)) at a most d lo k h = (omega (arith, h.0), h.1, k)
placed_inside (Err why) at a most d lo k h = tt

-- ---- an expression

module _ (s : List ℕ) (c : Scope) where
  pub begin_refused : (d n : ℕ) (r : Begun) (k p : ℕ) (x : Read (Counted Expr)) → r ≡ Err (at k p) → x ≡ refused k p → Begins s c d n r x
  unfolding Begins
  begin_refused d n r k p x e q = rw e q

  pub begin_number : (d n : ℕ) (z : ℤ) (e m : ℕ) (x : Read (Counted Expr)) → x ≡ got (counts (number z) m) e → Begins s c d n (Ok (B.Number z e m)) x
  unfolding Begins
  begin_number d n z e m x q = q

  pub begin_bracket : (d n : ℕ) (r : Begun) (x : Read (Counted Expr)) → Bracketed s (d - 1) c (expr (d - 1) s c) n r x → Begins s c d n r x
  unfolding Begins Bracketed
  begin_bracket d n (Ok (B.Number z e m)) x h = absurd h
  begin_bracket d n (Ok (B.Function p e)) x h = h
  begin_bracket d n (Ok (B.Operation minus e m)) x h = h
  begin_bracket d n (Err why) x h = h

  pub expr_none : (d n at : ℕ) (z : ℤ) (p e : ℕ) → token_at s at ≡ T.Number z p e → n ≡ 0 → expr d s c n at ≡ refused 12 p
  unfolding expr counted
  expr_none zero n at z p e q k = rw (q, k)
  expr_none (suc d) n at z p e q k = rw (q, k)

  pub expr_number : (d n at : ℕ) (z : ℤ) (p e : ℕ) → token_at s at ≡ T.Number z p e → (n ≡ 0 → ⊥) → expr d s c n at ≡ got (counts (number z) (n - 1)) e
  unfolding expr counted
  expr_number d zero at z p e q k = absurd (k refl)
  expr_number zero (suc n) at z p e q k = let o : suc n - 1 ≡ n = omega arith in rw (q, o)
  expr_number (suc d) (suc n) at z p e q k = let o : suc n - 1 ≡ n = omega arith in rw (q, o)

  pub expr_else : (d n at : ℕ) (t : Token) → t ≡ token_at s at → OneOf (0 ∷ 2 ∷ 3 ∷ 4 ∷ 5 ∷ 6 ∷ []) (tag_of token-type.the_type t)
      → OneOf (0 ∷ 1 ∷ 3 ∷ 4 ∷ 5 ∷ 6 ∷ []) (tag_of token-type.the_type t) → expr d s c n at ≡ refused (number_of d t) (place_of t)
  unfolding expr
  expr_else zero n at t e o k = rw (← e, not_number t _ _ o)
  expr_else (suc d) n at t e o k = rw (← e, not_open t _ _ k, not_number t _ _ o)

  pub expr_deep : (d n at p a : ℕ) → token_at s at ≡ T.Open p a → d ≡ 0 → expr d s c n at ≡ refused (number_of d (T.Open p a)) p
  unfolding expr
  expr_deep d n at p a e z = rw (z, e)

  pub expr_open : (d n at p a : ℕ) → token_at s at ≡ T.Open p a → (d ≡ 0 → ⊥) → expr d s c n at ≡ in_bracket s (d - 1) c (expr (d - 1) s c) n a
  unfolding expr
  expr_open zero n at p a e z = absurd (z refl)
  expr_open (suc d) n at p a e z = let o : suc d - 1 ≡ d = omega arith in rw (e, o)
