-- The ways through what is due in a plan line: marks, brackets, names, the start. Assumes nothing.
use Rattle.std.specs.Prelude.{None, Some}
use mathlib.Core.Path.{◌≡◌, refl}
use mathlib.Core.List.{List, [], ◌∷◌}
use Prim.Native.Nat.{ℕ, ◌≤◌, ◌<◌}
use lib.IntN.{ℤ, nat_abs}
use types.Run.{OneOf, miss}
use denote.Enum.Declared.{tag_of}
use borrow.Author.Tests.{eq-eqb, ne_eqb, lt-ltb, le-ltb}
use Rattle.text_tokens.specs.Runs.{part}
use Rattle.text_tokens.specs.Tokens.{plan_token_at}
use Rattle.text_tokens.specs.declared.tokens.Token.{Token}
use Rattle.text_tokens.specs.declared.tokens.Token.TheVariants as T
use Rattle.text_tokens.specs.declared.tokens.Word.{Word}
use Rattle.text_tokens.specs.contracts.tokens.Token as token-type
use Rattle.domain_meaning.specs.Tables.{Table, lookup, declared}
use Rattle.domain_meaning.specs.Due.{after_of, number_of, place_of}
use Rattle.domain_due.specs.Answers.{answer_of, Parsed, Done, Refused}
use Rattle.domain_due.proofs.Dues.{not_word, not_number, not_open, not_end}
use Rattle.plan_meaning.specs.Lines.{on_mark, mark, opening, name, line_end, start_at}
use Rattle.plan_lines.specs.Reading.{AmountAnswer, named_action, named_by}

pub not_mark : {A : Type 0} (t : Token) (f : ℕ → ℕ → A) (a : A) → OneOf (0 ∷ 1 ∷ 2 ∷ 3 ∷ 5 ∷ 6 ∷ []) (tag_of token-type.the_type t) → on_mark t f a ≡ a
not_mark (T.Word k p e) f a h = refl
not_mark (T.Number z p e) f a h = refl
not_mark (T.Open p n) f a h = refl
not_mark (T.Close p n) f a h = refl
not_mark (T.Mark m p n) f a h = absurd (miss (0 ∷ 1 ∷ 2 ∷ 3 ∷ 5 ∷ 6 ∷ []) 4 tt h)
not_mark (T.Refusal k p) f a h = refl
not_mark (T.End p) f a h = refl

-- ---- marks and brackets

module _ (s : List ℕ) (at : ℕ) where
  pub mark_else : (b : ℕ) (t : Token) (r : Parsed) → t ≡ plan_token_at s at → OneOf (0 ∷ 1 ∷ 2 ∷ 3 ∷ 5 ∷ 6 ∷ []) (tag_of token-type.the_type t)
      → r ≡ Refused (number_of 1 t) (place_of t) → r ≡ answer_of (mark s b at)
  unfolding mark
  mark_else b t r e o q = rw (← e, not_mark t _ _ o) q

  pub mark_read : (b c p n : ℕ) → plan_token_at s at ≡ T.Mark c p n → c ≡ b → Done n p ≡ answer_of (mark s b at)
  unfolding mark
  mark_read b c p n e h = rw (e, eq-eqb c b h)

  pub mark_other : (b c p n : ℕ) → plan_token_at s at ≡ T.Mark c p n → (c ≡ b → ⊥) → Refused 3 p ≡ answer_of (mark s b at)
  unfolding mark
  mark_other b c p n e h = rw (e, ne_eqb c b h)

  pub opening_else : (t : Token) (r : Parsed) → t ≡ plan_token_at s at → OneOf (0 ∷ 1 ∷ 3 ∷ 4 ∷ 5 ∷ 6 ∷ []) (tag_of token-type.the_type t)
      → r ≡ Refused (number_of 1 t) (place_of t) → r ≡ answer_of (opening s at)
  unfolding opening
  opening_else t r e o q = rw (← e, not_open t _ _ o) q

  pub opening_read : (p n : ℕ) → plan_token_at s at ≡ T.Open p n → Done n p ≡ answer_of (opening s at)
  unfolding opening
  opening_read p n e = rw e

  pub end_else : (t : Token) (r : Parsed) → t ≡ plan_token_at s at → OneOf (0 ∷ 1 ∷ 2 ∷ 3 ∷ 4 ∷ 5 ∷ []) (tag_of token-type.the_type t)
      → r ≡ Refused (number_of 1 t) (place_of t) → r ≡ answer_of (line_end s at)
  unfolding line_end
  end_else t r e o q = rw (← e, not_end t _ _ o) q

  pub end_read_lem : (p : ℕ) → plan_token_at s at ≡ T.End p → Done p p ≡ answer_of (line_end s at)
  unfolding line_end
  end_read_lem p e = rw e

-- ---- names

module _ (s : List ℕ) (names : Table) (t : Token) where
  -- a name that is read at a place is what the token there names
  pub named_at : (at : ℕ) → t ≡ plan_token_at s at → named_by s names t (after_of t) ≡ named_action s names at
  unfolding named_by named_action name
  named_at at e = rw e

  pub named_else : (r : Parsed) → OneOf (1 ∷ 2 ∷ 3 ∷ 4 ∷ 5 ∷ 6 ∷ []) (tag_of token-type.the_type t)
      → r ≡ Refused (number_of 1 t) (place_of t) → r ≡ answer_of (named_by s names t (after_of t))
  unfolding named_by
  named_else r o q = rw (not_word t _ _ o) q

  pub named_missing : (k : Word) (p e : ℕ) → t ≡ T.Word k p e → lookup names (part s p e) ≡ None → Refused 8 p ≡ answer_of (named_by s names t (after_of t))
  unfolding named_by declared
  named_missing k p e q h = rw (q, h)

  pub named_found : (k : Word) (p e i : ℕ) → t ≡ T.Word k p e → lookup names (part s p e) ≡ Some i → Done e i ≡ answer_of (named_by s names t (after_of t))
  unfolding named_by declared
  named_found k p e i q h = rw (q, h)

-- ---- the start

module _ (before : ℕ) (t : Token) where
  pub start_else : (r : Parsed) → OneOf (0 ∷ 2 ∷ 3 ∷ 4 ∷ 5 ∷ 6 ∷ []) (tag_of token-type.the_type t) → r ≡ Refused (number_of 1 t) (place_of t)
      → (r ≡ answer_of (start_at before t (after_of t))) × AmountAnswer r
  unfolding start_at
  start_else r o q = (rw (not_number t _ _ o) q, rw q tt)

  module _ (z : ℤ) (p e n : ℕ) (q : t ≡ T.Number z p e) (v : n ≡ nat_abs z) where
    pub start_below : n < before → (Refused 16 p ≡ answer_of (start_at before t (after_of t))) × Unit {0}
    unfolding start_at
    start_below h = (rw (q, ← v, lt-ltb n before h), tt)

    pub start_read : before ≤ n → n < 1000000000000 → (Done e n ≡ answer_of (start_at before t (after_of t))) × (n < 1000000000000)
    unfolding start_at
    start_read h k = (rw (q, ← v, le-ltb n before h), k)
