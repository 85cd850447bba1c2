-- A fact that becomes false: the ways of reading it after `not`. Assumes nothing.
use mathlib.Core.Path.{◌≡◌, refl, sym, ap, ◌∙◌}
use mathlib.Core.List.{List, [], ◌∷◌}
use mathlib.Core.Bool.{false}
use Prim.Native.Nat.{ℕ, ◌+◌, ◌-◌}
use lib.ListN.{length}
use lib.Seq.{sets}
use types.Run.{OneOf, miss}
use denote.Enum.Declared.{tag_of}
use Rattle.text_words.specs.Fixed.{head_of}
use Rattle.text_words.specs.declared.fixed.HeadWord.{HeadWord}
use Rattle.text_words.specs.declared.fixed.HeadWord.TheVariants as H
use Rattle.text_words.specs.contracts.fixed.HeadWord as head-type
use Rattle.text_tokens.specs.Runs.{part}
use Rattle.text_tokens.specs.Tokens.{token_at}
use Rattle.text_tokens.specs.declared.tokens.Token.{Token}
use Rattle.text_tokens.specs.declared.tokens.Token.TheVariants as T
use Rattle.text_tokens.specs.declared.tokens.Word.{Word}
use Rattle.text_tokens.specs.declared.tokens.Word.TheVariants as W
use Rattle.text_tokens.specs.contracts.tokens.Token as token-type
use Rattle.text_tokens.specs.contracts.tokens.Word as word-type
use Rattle.domain_meaning.specs.Read.{got, refused}
use Rattle.domain_meaning.specs.Due.{number_of, place_of, opening, closing}
use Rattle.domain_meaning.specs.Terms.{Scope, Counted, on_name}
use Rattle.domain_meaning.specs.Effects.{Effect, becomes_at, deleted_word, in_deletion, deletion}
use Rattle.domain_due.specs.Answers.{answer_of}
use Rattle.domain_due.specs.Answers.{Parsed}
use Rattle.domain_due.specs.Answers as A
use Rattle.domain_due.proofs.Dues.{answer_done, answer_refused, not_word}
use Rattle.domain_expressions.specs.Codes.{Written}
use Rattle.domain_expressions.proofs.Passed.{passed}
use Rattle.domain_expressions.specs.Codes.{Progress}
use Rattle.domain_expressions.specs.Codes.{Done, Refused}
use Rattle.domain_expressions.proofs.Ends.{written_refused}
use Rattle.domain_expressions.proofs.Operands.{written_got, written_not}
use Rattle.domain_stored_meaning.specs.Cells.{effects_cells}

-- ---- in the brackets

not_and : {A : Type 0} (h : HeadWord) (a o : A) → OneOf (1 ∷ 2 ∷ 3 ∷ 4 ∷ 5 ∷ 6 ∷ 7 ∷ 8 ∷ 9 ∷ 10 ∷ 11 ∷ 12 ∷ []) (tag_of head-type.the_type h)
    → on_name h a o o ≡ o
not_and H.And a o k = absurd (miss (1 ∷ 2 ∷ 3 ∷ 4 ∷ 5 ∷ 6 ∷ 7 ∷ 8 ∷ 9 ∷ 10 ∷ 11 ∷ 12 ∷ []) 0 tt k)
not_and H.Not a o k = refl
not_and H.Equal a o k = refl
not_and H.Less a o k = refl
not_and H.AtMost a o k = refl
not_and H.More a o k = refl
not_and H.AtLeast a o k = refl
not_and H.Plus a o k = refl
not_and H.Minus a o k = refl
not_and H.Assign a o k = refl
not_and H.Increase a o k = refl
not_and H.Decrease a o k = refl
not_and H.Other a o k = refl

module _ (s : List ℕ) (d : ℕ) (c : Scope) (n at : ℕ) where
  other_word : (k : Word) (p e : ℕ) → OneOf (1 ∷ 2 ∷ 3 ∷ []) (tag_of word-type.the_type k) → deleted_word s d c n k p e e ≡ refused 3 p
  other_word W.Name p e o = absurd (miss (1 ∷ 2 ∷ 3 ∷ []) 0 tt o)
  other_word W.Variable p e o = refl
  other_word W.Keyword p e o = refl
  other_word W.Operator p e o = refl

  pub deleted_else : (t : Token) → t ≡ token_at s at → OneOf (1 ∷ 2 ∷ 3 ∷ 4 ∷ 5 ∷ 6 ∷ []) (tag_of token-type.the_type t)
      → in_deletion s d c n at ≡ refused (number_of d t) (place_of t)
  deleted_else t e o = rw (← e, not_word t _ _ o)

  pub deleted_other : (k : Word) (p e : ℕ) → token_at s at ≡ T.Word k p e → OneOf (1 ∷ 2 ∷ 3 ∷ []) (tag_of word-type.the_type k)
      → in_deletion s d c n at ≡ refused 3 p
  deleted_other k p e q o = rw q (other_word k p e o)

  module _ (k : Word) (p e : ℕ) (q : token_at s at ≡ T.Word k p e) (h : k ≡ W.Name) where
    pub deleted_list : head_of (part s p e) ≡ H.And → in_deletion s d c n at ≡ refused 11 p
    deleted_list o = rw (q, h, o)

    pub deleted_fact : OneOf (1 ∷ 2 ∷ 3 ∷ 4 ∷ 5 ∷ 6 ∷ 7 ∷ 8 ∷ 9 ∷ 10 ∷ 11 ∷ 12 ∷ []) (tag_of head-type.the_type (head_of (part s p e)))
        → in_deletion s d c n at ≡ becomes_at s d c false n p e e
    deleted_fact o = rw (q, h, not_and (head_of (part s p e)) _ _ o)

-- ---- with its brackets

arrived : (code : List ℕ) (u : ℕ) (t : Counted (List Effect)) (after v l : ℕ) (m : List ℕ) → v ≡ u + length (effects_cells t.tree) → l ≡ t.left
    → m ≡ sets code u (effects_cells t.tree)
    → Written effects_cells code u (Done after v l) m (got t after)
unfolding Written
arrived code u t after v l m free left stored = (rw (free, left), stored)

module _ (s : List ℕ) (d : ℕ) (c : Scope) (n from : ℕ) (code : List ℕ) (u : ℕ) (a : Parsed) (ea : a ≡ answer_of (opening s d from)) where
  pub deletion_unopened : (k p : ℕ) (r : Progress) (m : List ℕ) → a ≡ A.Refused k p → r ≡ passed n a → Written effects_cells code u r m (deletion s d c n from)
  unfolding deletion
  deletion_unopened k p r m q j = written_refused effects_cells code u r m _ k p (rw (answer_refused (opening s d from) k p (sym ea ∙ q))) (j ∙ ap (passed n) q)

  module _ (next o : ℕ) (qa : a ≡ A.Done next o) (x : Progress) (m₁ : List ℕ) (wx : Written effects_cells code u x m₁ (in_deletion s (d - 1) c n next)) where
    pub deletion_refused : (k p : ℕ) → x ≡ Refused k p → Written effects_cells code u x m₁ (deletion s d c n from)
    unfolding deletion
    deletion_refused k p q =
        written_refused effects_cells code u x m₁ _ k p
        (rw (answer_done (opening s d from) next o (sym ea ∙ qa), written_not effects_cells code u x m₁ (in_deletion s (d - 1) c n next) k p wx q)) q

    module _ (end v l : ℕ) (qx : x ≡ Done end v l) (b : Parsed) (eb : b ≡ answer_of (closing s d end)) where
      pub deletion_unclosed : (k p : ℕ) (r : Progress) (m : List ℕ) → b ≡ A.Refused k p → r ≡ passed n b
          → Written effects_cells code u r m (deletion s d c n from)
      unfolding deletion
      deletion_unclosed k p r m q j =
          let g = written_got effects_cells code u x m₁ (in_deletion s (d - 1) c n next) end v l wx qx in
          written_refused effects_cells code u r m _ k p
          (rw (answer_done (opening s d from) next o (sym ea ∙ qa), g.is, answer_refused (closing s d end) k p (sym eb ∙ q))) (j ∙ ap (passed n) q)

      pub deletion_stored : (after p : ℕ) → b ≡ A.Done after p → Written effects_cells code u (Done after v l) m₁ (deletion s d c n from)
      unfolding deletion
      deletion_stored after p q =
          let g = written_got effects_cells code u x m₁ (in_deletion s (d - 1) c n next) end v l wx qx in
          rw (answer_done (opening s d from) next o (sym ea ∙ qa), g.is, answer_done (closing s d end) after p (sym eb ∙ q))
          (arrived code u g.tree after v l m₁ g.free g.left g.stored)
